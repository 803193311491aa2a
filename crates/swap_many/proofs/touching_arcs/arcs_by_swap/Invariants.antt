use Rattle.std.proofs.Common.{◌≡◌, map, take}
use Rattle.swap_many.specs.TouchingArcs.{swap_adjacent_arcs}
use Rattle.swap_many.proofs.touching_arcs.arcs_by_swap.Given as goal

abbrev pub invariant-swaps : goal.invariant-swaps
invariant-swaps l = l.all.items ≡ map swap_adjacent_arcs (take l.world-index l.worlds)
