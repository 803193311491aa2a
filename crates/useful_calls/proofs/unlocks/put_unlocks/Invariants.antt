use Rattle.std.proofs.Common.{◌≡◌, ◌++◌}
use Rattle.std.specs.List.{flat_map, range_with_len}
use Rattle.useful_calls.specs.Actions.{actions}
use Rattle.useful_calls.specs.Asker.{asker_unlocks}
use Rattle.useful_calls.proofs.unlocks.put_unlocks.Given as goal

abbrev pub invariant-loop-lock : goal.invariant-loop-lock
invariant-loop-lock l = actions l.calls.items ≡ actions l.initial.calls.items ++ flat_map (asker_unlocks l.asker) (range_with_len 0 l.lock)
