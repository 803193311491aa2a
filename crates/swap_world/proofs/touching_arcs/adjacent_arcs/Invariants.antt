use Rattle.std.proofs.Common.{◌≡◌, ◌==◌, ◌||◌, filter}
use Rattle.std.specs.List.{range_with_len}
use Rattle.swap_digraph.specs.Deal.{party, counterparty}
use Rattle.swap_world.proofs.touching_arcs.adjacent_arcs.Given as goal

abbrev pub invariant-arcs : goal.invariant-arcs
invariant-arcs l = l.near.items ≡ filter (λ a. (l.p == party l.deal a) || (l.p == counterparty l.deal a)) (range_with_len 0 l.arc)
