use Rattle.std.proofs.Common.{◌≡◌, ◌&&◌, filter}
use Rattle.std.specs.List.{range_with_len}
use Rattle.swap_digraph.specs.Graph.{ends, is_listed}
use Rattle.swap_clear.proofs.group_digraph.inner_arcs.Given as goal

abbrev pub invariant-loop-number : goal.invariant-loop-number
invariant-loop-number l =
    l.numbers.items
    ≡ filter (λ a. is_listed (ends l.graph a).from l.set && is_listed (ends l.graph a).to l.set) (range_with_len 0 l.number)
