use Rattle.std.proofs.Common.{◌≡◌, ◌≤◌, ◌*◌, ◌^◌, sum_by}
use Rattle.std.specs.List.{range_with_len}
use Rattle.swap_many.specs.Opening.{arc_funding}
use Rattle.swap_many.proofs.opening.units_aside.Given as goal

abbrev pub invariant-arcs : goal.invariant-arcs
invariant-arcs l = (l.sum ≡ sum_by (arc_funding l.world.deal l.places l.chain l.account) (range_with_len 0 l.arc)) × (l.sum ≤ l.arc * 10 ^ 12)
