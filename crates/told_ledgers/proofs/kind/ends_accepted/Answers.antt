use Rattle.std.proofs.Common.{ap, false, sym, ◌∙◌}
use Rattle.transcript_book.specs.Between.{separated_parts}
use Rattle.told_ledgers.proofs.Words.{accepted_after, accepted_first}
use Rattle.told_ledgers.proofs.kind.ends_accepted.Goals as goal

pub words-init : goal.words-init
words-init c = accepted_first (separated_parts 32 c.args.line.now) ∙ ap (accepted_after false false) (sym c.new-words.ensures)
