-- The leaders of a group and their cycles, over its own digraph, in which its parties are numbered
-- by their places.
use Rattle.std.specs.Prelude.{◌≡◌, ◌⊎◌, ◌↔◌, ℕ, ◌<◌, ◌≤◌, IsTrue, List, [], ◌∷◌, length, map, slice_index, slice_index_or}
use Rattle.std.specs.List.Sorted.{IsStrictlyIncreasing}
use Rattle.swap_base.specs.Lists.{IsElement}
use Rattle.swap_digraph.specs.Value.{Graph}
use Rattle.swap_digraph.specs.Graph.{parties, is_listed, IsFeedback, IsHeight}
use Rattle.time_bounds.specs.Times.{need}
use Rattle.leader_check.specs.Cycles.{IsShortestFollowerCycle}
use Rattle.swap_clear.specs.declared.answer.Group.{Group}
use Rattle.swap_clear.specs.Groups.{index_in_set, own_graph}
use Rattle.swap_clear.specs.Leaders.{touching_count, other_leaders}

-- the group's own digraph
abbrev pub own : Graph → Group → Graph
own g group = own_graph g group.parties group.arcs

-- its leaders, by their places
abbrev pub own_leaders : Group → List ℕ
own_leaders group = map (index_in_set group.parties) group.leaders

-- u is tried before v: fewer arcs touch it, or as many and its number is less.
abbrev pub IsTriedEarlier : Graph → ℕ → ℕ → Type 0
IsTriedEarlier g u v = (touching_count g u < touching_count g v) ⊎ ((touching_count g u ≡ touching_count g v) × (u < v))

-- Each of the list is tried before those after it.
abbrev pub IsInOrder : Graph → List ℕ → Type 0
IsInOrder g [] = Unit {0}
IsInOrder g (u ∷ order) = ((v : ℕ) → IsElement v order → IsTriedEarlier g u v) × IsInOrder g order

-- The list has every party, in the order of trying.
pub record IsOrder (g : Graph) (order : List ℕ) : Type 0 where
  pub parties : (v : ℕ) → (IsTrue (is_listed v order) ↔ (v < g.n))
  pub in_order : IsInOrder g order

-- What remains of the leaders when those of the list are dropped, one after the other, wherever the
-- rest is still a feedback vertex set.
abbrev pub Remain : Graph → List ℕ → List ℕ → List ℕ → Type 0
Remain g leaders [] rest = rest ≡ leaders
Remain g leaders (v ∷ order) rest =
    (IsFeedback g (other_leaders v leaders) × Remain g (other_leaders v leaders) order rest)
    ⊎ ((IsFeedback g (other_leaders v leaders) → ⊥) × Remain g leaders order rest)

-- This many leaders remain of all parties of the digraph, tried in order.
pub record SoManyRemain (g : Graph) (count : ℕ) : Type 0 where
  pub order : List ℕ
  pub is_order : IsOrder g order
  pub leaders : List ℕ
  pub remain : Remain g (parties g) order leaders
  pub many : length leaders ≡ count

-- The leaders are what remains of all parties, tried in order.
pub record IsLed (g : Graph) (group : Group) : Type 0 where
  pub ascending : IsStrictlyIncreasing group.leaders
  pub among : (v : ℕ) → IsTrue (is_listed v group.leaders) → IsTrue (is_listed v group.parties)
  pub order : List ℕ
  pub is_order : IsOrder (own g group) order
  pub remain : Remain (own g group) (parties (own g group)) order (own_leaders group)
  pub feedback : IsFeedback (own g group) (own_leaders group)
  pub few : (1 ≤ length group.leaders) × (length group.leaders ≤ 8)

-- For each leader there is a cycle: a shortest one that begins with it and holds no other leader.
pub record HasCycles (g : Graph) (group : Group) : Type 0 where
  pub one_each : length group.cycles ≡ length group.leaders
  pub parties : (list : List ℕ) (v : ℕ) → IsElement list group.cycles → IsTrue (is_listed v list) → IsTrue (is_listed v group.parties)
  pub cycle : (i : ℕ) → i < length group.leaders
      → IsShortestFollowerCycle (own g group) (other_leaders (slice_index (own_leaders group) i) (own_leaders group)) (slice_index (own_leaders group) i)
      (map (index_in_set group.parties) (slice_index_or group.cycles i []))

-- No proper part of the leaders is a feedback vertex set.
abbrev pub NoFewerLead : Graph → Group → Type 0
NoFewerLead g group =
    (part : List ℕ) → ((v : ℕ) → IsTrue (is_listed v part) → IsTrue (is_listed v (own_leaders group))) → IsFeedback (own g group) part
    → (v : ℕ) → IsTrue (is_listed v (own_leaders group)) → IsTrue (is_listed v part)

-- The bound is what the parties, the leaders and the paths of followers ask.
pub record IsBound (g : Graph) (group : Group) : Type 0 where
  pub height : ℕ
  pub is_height : IsHeight (own g group) (own_leaders group) height
  pub need : group.bound ≡ need (length group.parties) (length group.leaders) height
