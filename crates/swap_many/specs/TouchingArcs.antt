-- The arcs that touch the parties of the swaps.
use Rattle.std.specs.Prelude.{◌≡◌, ◌<◌, ℕ, List, [], length, slice_index_or}
use Rattle.swap_world.specs.TouchingArcs.{all_adjacent}
use Rattle.swap_world.specs.Value.{WorldState}
use Rattle.swap_many.specs.Ticking.{nth}

-- those of a swap, by party
abbrev pub swap_adjacent_arcs : WorldState → List (List ℕ)
swap_adjacent_arcs w = all_adjacent w.deal

-- The lists are those of the swaps, by swap and party.
pub record AreAdjacentArcs (near : List (List (List ℕ))) (ws : List WorldState) : Type 0 where
  pub one_each : length near ≡ length ws
  pub each : (s : ℕ) → s < length ws → slice_index_or near s [] ≡ swap_adjacent_arcs (nth ws s)
