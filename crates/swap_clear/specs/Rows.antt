-- Rows of bits that tell which party reaches which.
use Rattle.std.specs.Prelude.{◌≡◌, ℕ, ◌<◌, List, length}
use Rattle.swap_digraph.specs.Value.{Graph}
use Rattle.leader_check.specs.Cycles.{has_bit}
use Rattle.digraph_check.specs.Reach.{reaches_in_arcs, reaches}

-- Bit v of the number at place u tells whether u reaches v along at most k arcs.
pub record TellsBoundedReach (g : Graph) (k : ℕ) (row : List ℕ) : Type 0 where
  pub parties : length row ≡ g.n
  pub tells : (u v : ℕ) → u < g.n → has_bit row v u ≡ reaches_in_arcs g k u v

-- Bit v of the number at place u tells whether u reaches v.
pub record TellsReach (g : Graph) (row : List ℕ) : Type 0 where
  pub parties : length row ≡ g.n
  pub tells : (u v : ℕ) → u < g.n → has_bit row v u ≡ reaches g u v
