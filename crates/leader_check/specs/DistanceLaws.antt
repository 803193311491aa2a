-- The law of distances, as a contract states it.
use Rattle.std.specs.Prelude.{◌≡◌, ℕ, ◌<◌, [], ◌∷◌}
use Rattle.swap_digraph.specs.Value.{Graph}
use Rattle.swap_digraph.specs.Graph.{HasEnds, IsFeedback, IsStronglyConnected}
use Rattle.leader_check.specs.Distance.{prior_distance, leader_distance}

-- the distance is 0 for the leader, and for a follower 1 plus the greatest distance of the
-- counterparties of its leaving arcs
abbrev pub DistancesFollowArcs : Type 0
DistancesFollowArcs =
    (g : Graph) (leader v : ℕ) → HasEnds g → IsStronglyConnected g → leader < g.n → IsFeedback g (leader ∷ []) → v < g.n
    → leader_distance g leader v ≡ prior_distance g leader (leader_distance g leader) v
