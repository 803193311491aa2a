use Rattle.std.proofs.Common.{◌≡◌, map, take}
use Rattle.swap_clear.specs.Proposals.{resolve_arc_ends}
use Rattle.swap_clear.proofs.proposals.all_ends.Given as goal

abbrev pub invariant-loop-arc : goal.invariant-loop-arc
invariant-loop-arc l = l.ends.items ≡ map resolve_arc_ends (take l.arc-index l.arcs)
