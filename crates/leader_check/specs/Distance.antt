-- How far the parties stand from the one leader.
use Rattle.std.specs.Prelude.{ℕ, zero, suc, ◌+◌, ◌==◌, if◌then◌else◌, List, [], ◌∷◌, map}
use Rattle.swap_base.specs.Lists.{greatest}
use Rattle.swap_digraph.specs.Value.{Graph}
use Rattle.swap_digraph.specs.Graph.{parties}
use Rattle.leader_check.specs.Followers.{is_follower}

-- the greatest value of f at a vertex to which v has an arc, 0 where there is none
unfoldable pub greatest_next_value : Graph → (ℕ → ℕ) → ℕ → ℕ
greatest_next_value g f v = greatest (λ a. if a.from == v then f a.to else 0) g.arcs

-- the distance of v, where f is the distance of the vertices after it
unfoldable pub prior_distance : Graph → ℕ → (ℕ → ℕ) → ℕ → ℕ
prior_distance g leader f v = if is_follower g (leader ∷ []) v then greatest_next_value g f v + 1 else 0

-- the distance of v, counted along walks of a bounded number of arcs
unfoldable pub bounded_distance : Graph → ℕ → ℕ → ℕ → ℕ
bounded_distance g leader zero v = 0
bounded_distance g leader (suc most) v = prior_distance g leader (bounded_distance g leader most) v

-- 0 for the leader; for a follower 1 plus the greatest distance of the counterparties of its
-- leaving arcs
unfoldable pub leader_distance : Graph → ℕ → ℕ → ℕ
leader_distance g leader v = bounded_distance g leader g.n v

-- the distances of the parties, counted along walks of a bounded number of arcs
abbrev pub bounded_distances : Graph → ℕ → ℕ → List ℕ
bounded_distances g leader most = map (bounded_distance g leader most) (parties g)
