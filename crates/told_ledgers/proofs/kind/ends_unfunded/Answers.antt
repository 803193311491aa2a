use Rattle.std.proofs.Common.{ap, false, sym, ◌∙◌}
use Rattle.transcript_book.specs.Between.{separated_parts}
use Rattle.told_ledgers.proofs.Words.{unfunded_after, unfunded_first}
use Rattle.told_ledgers.proofs.kind.ends_unfunded.Goals as goal

pub words-init : goal.words-init
words-init c = unfunded_first (separated_parts 32 c.args.line.now) ∙ ap (unfunded_after false false false) (sym c.new-words.ensures)
