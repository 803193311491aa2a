use Rattle.std.proofs.Common.{◌≡◌, map}
use Rattle.std.specs.List.{range_with_len}
use Rattle.swap_digraph.specs.Graph.{entering_numbers}
use Rattle.swap_digraph.proofs.digraph.all_entering.Given as goal

abbrev pub invariant-loop-p : goal.invariant-loop-p
invariant-loop-p l = l.lists.items ≡ map (entering_numbers l.arcs) (range_with_len 0 l.p)
