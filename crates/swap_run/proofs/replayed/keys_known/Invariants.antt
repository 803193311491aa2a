use Rattle.std.proofs.Common.{◌≡◌, take}
use Rattle.swap_run.specs.Rules.{keys_known}
use Rattle.swap_run.proofs.replayed.keys_known.Given as goal

abbrev pub invariant-loop-list : goal.invariant-loop-list
invariant-loop-list l = l.keys.items ≡ keys_known (take l.list-index l.known.histories)
