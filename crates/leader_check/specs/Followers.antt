-- The followers of a digraph, which are the parties that don't lead.
use Rattle.std.specs.Prelude.{ℕ, Bool, false, not, ◌&&◌, nat_lt, List, slice_index_or}
use Rattle.swap_digraph.specs.Value.{Graph}
use Rattle.swap_digraph.specs.Graph.{is_listed}

abbrev pub is_follower : Graph → List ℕ → ℕ → Bool
is_follower g leaders v = nat_lt v g.n && not (is_listed v leaders)

-- whether the list holds true at that place
abbrev pub is_marked_place : List Bool → ℕ → Bool
is_marked_place row v = slice_index_or row v false
