use Rattle.std.proofs.Common.{not, sym, ap, ◌∙◌}
use Rattle.history_index.specs.Indexes.{all_entries}
use Rattle.swap_rules.proofs.Useful.{unrevealed}
use Rattle.useful_calls.proofs.withheld.is_unrevealed.Goals as goal

pub returns : goal.returns
returns c = ap not c.has_revealed.ensures ∙ sym (unrevealed c.args.me c.args.lock (all_entries c.args.known.now))
