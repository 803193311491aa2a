use Rattle.std.proofs.Common.{◌≡◌, map, take}
use Rattle.history_index.specs.Indexes.{all_entries}
use Rattle.useful_calls.specs.Actions.{actions}
use Rattle.party_answer.specs.Lines.{timed}
use Rattle.party_answer.proofs.calls.all_timed.Given as goal

abbrev pub invariant-loop-due : goal.invariant-loop-due
invariant-loop-due l = l.list.items ≡ map (timed l.deal (all_entries l.known) l.me) (actions (take l.due-index l.calls))
