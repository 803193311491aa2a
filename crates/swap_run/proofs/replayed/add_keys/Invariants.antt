use Rattle.std.proofs.Common.{◌≡◌, ◌++◌, take}
use Rattle.std.specs.List.{flat_map}
use Rattle.swap_run.specs.Rules.{item_keys}
use Rattle.swap_run.proofs.replayed.add_keys.Given as goal

abbrev pub invariant-loop-item : goal.invariant-loop-item
invariant-loop-item l = l.keys.items ≡ l.fn.keys.items ++ flat_map item_keys (take l.item-index l.items)
