-- The groups of parties that reach each other.
use Rattle.std.specs.Prelude.{◌≡◌, ◌≢◌, ◌⊎◌, ◌↔◌, ℕ, ◌<◌, IsTrue, List, [], length, map, slice_index}
use Rattle.std.specs.List.Sorted.{IsStrictlyIncreasing}
use Rattle.swap_base.specs.Lists.{IsElement}
use Rattle.swap_digraph.specs.Value.{Graph}
use Rattle.swap_digraph.specs.Graph.{ends, is_listed}
use Rattle.swap_clear.specs.declared.answer.Group.{Group}
use Rattle.swap_clear.specs.Cyclic.{Reaches}

-- Two parties are in one group: they are equal, or each reaches the other.
abbrev pub AreTogether : Graph → ℕ → ℕ → Type 0
AreTogether g u v = (u ≡ v) ⊎ (Reaches g u v × Reaches g v u)

-- The arc has both ends in the set.
abbrev pub HasBothEndsInSet : Graph → List ℕ → ℕ → Type 0
HasBothEndsInSet g set a = IsTrue (is_listed (ends g a).from set) × IsTrue (is_listed (ends g a).to set)

-- The parties are all that are together with one of them, the arcs are all between them, and there
-- are some.
pub record IsGroup (g : Graph) (group : Group) : Type 0 where
  pub ascending : IsStrictlyIncreasing group.parties
  pub parties : (v : ℕ) → IsTrue (is_listed v group.parties) → v < g.n
  pub together : (u v : ℕ) → IsTrue (is_listed u group.parties) → v < g.n → (IsTrue (is_listed v group.parties) ↔ AreTogether g u v)
  pub arcs_ascend : IsStrictlyIncreasing group.arcs
  pub arcs : (a : ℕ) → a < length g.arcs → (IsTrue (is_listed a group.arcs) ↔ HasBothEndsInSet g group.parties a)
  pub arc : (a : ℕ) → IsTrue (is_listed a group.arcs) → a < length g.arcs
  pub some_arcs : group.arcs ≢ []

-- The groups, by their least party; each arc whose ends are together is in one.
pub record AreGroups (g : Graph) (groups : List Group) : Type 0 where
  pub each : (group : Group) → IsElement group groups → IsGroup g group
  pub ascending : IsStrictlyIncreasing (map (λ group. slice_index group.parties 0) groups)
  pub all : (a : ℕ) → a < length g.arcs → AreTogether g (ends g a).from (ends g a).to → (group : Group) × IsElement group groups × IsTrue (is_listed a group.arcs)
