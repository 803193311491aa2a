use Rattle.std.proofs.Common.{◌≡◌, ◌≤◌, ◌*◌, ◌^◌, [], sum_by}
use Rattle.std.specs.List.{range_with_len}
use Rattle.swap_digraph.specs.Graph.{arcs}
use Rattle.swap_many.specs.Chains.{slot_funding}
use Rattle.swap_many.specs.Opening.{setup_of_worlds}
use Rattle.swap_many.specs.Ticking.{nth}
use Rattle.swap_many.proofs.opening.aside.Given as goal

abbrev pub invariant-swaps : goal.invariant-swaps
invariant-swaps l = (l.sum ≡ sum_by (λ s. sum_by (slot_funding (setup_of_worlds l.worlds l.places []) l.chain l.account s) (arcs (nth l.worlds s).deal.graph))
    (range_with_len 0 l.s))
    × (l.sum ≤ l.s * 10 ^ 15)
