-- Closed sets.
use Rattle.std.specs.Prelude.{◌≡◌, ◌≢◌, ℕ, ◌<◌, false, IsTrue, List, [], length}
use Rattle.std.specs.List.Sorted.{IsStrictlyIncreasing}
use Rattle.swap_digraph.specs.Value.{Graph}
use Rattle.swap_digraph.specs.Graph.{ends, is_listed}

-- Some parties, ascending, but not all, that no arc leaves.
pub record IsClosedSet (g : Graph) (set : List ℕ) : Type 0 where
  pub some : set ≢ []
  pub ascending : IsStrictlyIncreasing set
  pub parties : (v : ℕ) → IsTrue (is_listed v set) → v < g.n
  pub others : (v : ℕ) × (v < g.n) × (is_listed v set ≡ false)
  pub closed : (a : ℕ) → a < length g.arcs → IsTrue (is_listed (ends g a).from set) → IsTrue (is_listed (ends g a).to set)
