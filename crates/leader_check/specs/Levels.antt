-- The level of a party: how many followers in a row lead up to it. Levels show that the leaders are
-- a feedback vertex set (Herlihy 2018, section 2).
use Rattle.std.specs.Prelude.{◌≡◌, ◌⊎◌, ℕ, zero, suc, ◌+◌, ◌≤◌, ◌==◌, if◌then◌else◌, IsTrue, List, length, map}
use Rattle.swap_base.specs.Lists.{greatest}
use Rattle.swap_digraph.specs.Value.{Graph}
use Rattle.swap_digraph.specs.Graph.{parties, is_path, last_is, are_followers}
use Rattle.leader_check.specs.Followers.{is_follower}

-- the greatest value of f at a vertex with an arc to v, 0 where there is none
unfoldable pub greatest_prior_value : Graph → (ℕ → ℕ) → ℕ → ℕ
greatest_prior_value g f v = greatest (λ a. if a.to == v then f a.from else 0) g.arcs

-- the level of v, where f is the level of the vertices before it
unfoldable pub following_level : Graph → List ℕ → (ℕ → ℕ) → ℕ → ℕ
following_level g leaders f v = if is_follower g leaders v then greatest_prior_value g f v + 1 else 0

-- the most vertices on a walk of followers that ends in v, among walks of a bounded number of
-- vertices
unfoldable pub bounded_level : Graph → List ℕ → ℕ → ℕ → ℕ
bounded_level g leaders zero v = 0
bounded_level g leaders (suc most) v = following_level g leaders (bounded_level g leaders most) v

-- 0 for a leader; for a follower the most vertices on a walk of followers that ends in it, of walks
-- with no more vertices than parties
unfoldable pub party_level : Graph → List ℕ → ℕ → ℕ
party_level g leaders v = bounded_level g leaders g.n v

-- the greatest level
unfoldable pub greatest_level : Graph → List ℕ → ℕ
greatest_level g leaders = greatest (party_level g leaders) (parties g)

-- the levels of the parties, among walks of a bounded number of vertices
abbrev pub bounded_levels : Graph → List ℕ → ℕ → List ℕ
bounded_levels g leaders most = map (bounded_level g leaders most) (parties g)

-- k is the most vertices on a path of followers alone that ends in v: 0 for a leader
pub record IsLevel (g : Graph) (leaders : List ℕ) (v k : ℕ) : Type 0 where
  pub reached : (k ≡ 0) ⊎ ((p : List ℕ) × IsTrue (is_path g p) × IsTrue (last_is v p) × IsTrue (are_followers leaders p) × (length p ≡ k))
  pub most : (p : List ℕ) → IsTrue (is_path g p) → IsTrue (last_is v p) → IsTrue (are_followers leaders p) → length p ≤ k
