use Rattle.std.proofs.Common.{◌≡◌, ◌-◌, ◌≤◌, length, []}
use Rattle.std.specs.List.{range_with_len}
use Rattle.swap_base.specs.Fault.{steps}
use Rattle.swap_digraph.specs.Graph.{parties}
use Rattle.swap_clear.specs.Clearing.{add_group}
use Rattle.swap_clear.proofs.groups.groups.Given as goal

abbrev pub invariant-loop-v : goal.invariant-loop-v
invariant-loop-v l =
    record {
      few : length l.groups.items ≤ l.v;
      goes_on : steps (add_group l.graph) l.groups.items (range_with_len l.v (l.graph.n - l.v)) ≡ steps (add_group l.graph) [] (parties l.graph);
    }
