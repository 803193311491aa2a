-- The lists of the arcs that touch each party of each swap.
use Rattle.std.proofs.Common.{◌≡◌, ◌<◌, ℕ, List, [], length, map, slice_index_or, sym, ap, ◌∙◌, subst}
use Rattle.std.proofs.lemmas.List.{length-map}
use Rattle.swap_world.specs.TouchingArcs.{all_adjacent}
use Rattle.swap_world.specs.Gone.{MayGive}
use Rattle.swap_world.specs.Value.{WorldState}
use Rattle.swap_many.specs.Chains.{Setup}
use Rattle.swap_many.specs.Kept.{Kept}
use Rattle.swap_many.specs.TouchingArcs.{AreAdjacentArcs, swap_adjacent_arcs}
use Rattle.swap_many.specs.Value.{ManyState, HasManyGone, no_world}
use Rattle.swap_many.proofs.Gone.{deal_gone}
use Rattle.swap_many.proofs.Ticked.{map_at}

pub are_near : (ws : List WorldState) (near : List (List (List ℕ))) → near ≡ map swap_adjacent_arcs ws → AreAdjacentArcs near ws
are_near ws near e = record {
  one_each = ap (λ (xs : List (List (List ℕ))). length xs) e ∙ length-map ws swap_adjacent_arcs;
  each = λ s l. ap (λ (xs : List (List (List ℕ))). slice_index_or xs s []) e ∙ map_at swap_adjacent_arcs ws s no_world [] l;
}

-- while many worlds go on
pub near_gone : (gives : MayGive) (f : Setup → Kept → Kept) (old new : ManyState) (near : List (List (List ℕ))) → HasManyGone gives f old new
    → AreAdjacentArcs near old.worlds → AreAdjacentArcs near new.worlds
near_gone gives f old new near k n = record {
  one_each = n.one_each ∙ sym k.same.swaps;
  each = λ s l. n.each s (subst (λ m. s < m) k.same.swaps l) ∙ ap all_adjacent (sym (deal_gone gives f old new s k));
}
