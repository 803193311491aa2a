-- The laws of leaders, as the contracts state them.
use Rattle.std.specs.Prelude.{◌≡◌, ◌↔◌, ℕ, ◌≤◌, IsTrue, List, length, None}
use Rattle.swap_digraph.specs.Value.{Graph}
use Rattle.swap_digraph.specs.Graph.{is_path, is_listed, last_is, listed_arcs, IsFeedback, IsHeight}
use Rattle.time_bounds.specs.Times.{need}
use Rattle.leader_check.specs.Levels.{greatest_level}
use Rattle.leader_check.specs.Cycles.{follower_cycle}

-- there is no cycle of followers exactly where the leaders are a feedback vertex set
abbrev pub NoCycleIsFeedback : Type 0
NoCycleIsFeedback = (g : Graph) (leaders : List ℕ) → (follower_cycle g leaders ≡ None) ↔ IsFeedback g leaders

-- where the leaders are a feedback vertex set, the greatest level is the most vertices on a path of
-- followers alone
abbrev pub GreatestLevelIsHeight : Type 0
GreatestLevelIsHeight = (g : Graph) (leaders : List ℕ) → IsFeedback g leaders → IsHeight g leaders (greatest_level g leaders)

-- every path that ends in a leader has at most this number of arcs
abbrev pub HasBoundedLeaderPaths : Graph → List ℕ → ℕ → Type 0
HasBoundedLeaderPaths g leaders most = (p : List ℕ) (leader : ℕ) → IsTrue (is_path g p) → IsTrue (last_is leader p) → IsTrue (is_listed leader leaders)
    → listed_arcs p ≤ most

-- where h is the most vertices on a path of followers alone, a path that ends in a leader has at
-- most need arcs
abbrev pub PathsToLeadersAreBounded : Type 0
PathsToLeadersAreBounded = (g : Graph) (leaders : List ℕ) (h : ℕ) → IsHeight g leaders h → HasBoundedLeaderPaths g leaders (need g.n (length leaders) h)
