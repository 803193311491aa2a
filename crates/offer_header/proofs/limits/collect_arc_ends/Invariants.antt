use Rattle.std.proofs.Common.{◌≡◌, map, take}
use Rattle.offer_header.specs.Limits.{arc_ends}
use Rattle.offer_header.proofs.limits.collect_arc_ends.Given as goal

abbrev pub invariant-loop-arc : goal.invariant-loop-arc
invariant-loop-arc l = l.list.items ≡ map arc_ends (take l.arc-index l.arcs)
