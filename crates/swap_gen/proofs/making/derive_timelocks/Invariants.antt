use Rattle.std.proofs.Common.{◌≡◌, map}
use Rattle.std.specs.List.{range_with_len}
use Rattle.swap_gen.specs.Made.{arc_timelock}
use Rattle.swap_gen.proofs.making.derive_timelocks.Given as goal

abbrev pub invariant-loop-arc : goal.invariant-loop-arc
invariant-loop-arc l = l.timelocks.items ≡ map (arc_timelock l.deal) (range_with_len 0 l.arc-index)
