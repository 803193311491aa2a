use Rattle.std.proofs.Common.{◌≡◌, map, take}
use Rattle.digraph_check.specs.Reach.{reversed_ends}
use Rattle.digraph_check.proofs.search.reversed.Given as goal

abbrev pub invariant-loop-arc : goal.invariant-loop-arc
invariant-loop-arc l = l.turned.items ≡ map reversed_ends (take l.arc-index l.arcs)
