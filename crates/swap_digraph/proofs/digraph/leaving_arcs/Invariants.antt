use Rattle.std.proofs.Common.{◌≡◌, filter, ◌==◌}
use Rattle.std.specs.List.{range_with_len}
use Rattle.swap_digraph.specs.Graph.{resolve_all_ends}
use Rattle.swap_digraph.proofs.digraph.leaving_arcs.Given as goal

abbrev pub invariant-loop-number : goal.invariant-loop-number
invariant-loop-number l = l.numbers.items ≡ filter (λ a. (resolve_all_ends l.arcs a).from == l.p) (range_with_len 0 l.number)
