-- The cycles of followers alone, and which of them an answer shows.
use Rattle.std.specs.Prelude.{◌≡◌, ℕ, zero, suc, ◌+◌, ◌≤◌, Bool, true, false, ◌&&◌, ◌==◌, IsTrue, List, [], ◌∷◌, Option, Some, None, unwrap_or, length}
use Rattle.std.specs.Prelude.{slice_index, slice_index_or}
use Rattle.std.specs.Int.{bit_at}
use Rattle.std.specs.List.{list_any, range_with_len}
use Rattle.swap_base.specs.Lists.{first_given_answer, IsElement}
use Rattle.swap_digraph.specs.Value.{Graph}
use Rattle.swap_digraph.specs.Graph.{parties, has_arc, are_followers, IsConnectingPath}
use Rattle.leader_check.specs.Followers.{is_follower}

-- x, where the test holds
abbrev pub only_if : {A : Type 0} → Bool → A → Option A
only_if true x = Some x
only_if false x = None

-- whether u has an arc to a vertex at which f holds
unfoldable pub enters_led : Graph → (ℕ → Bool) → ℕ → Bool
enters_led g f u = list_any (λ a. (a.from == u) && f a.to) g.arcs

-- the least vertex to which u has an arc and at which f holds
unfoldable pub first_step : Graph → (ℕ → Bool) → ℕ → ℕ
first_step g f u = unwrap_or (first_given_answer (λ w. only_if (has_arc g u w && f w) w) (parties g)) 0

-- whether a walk of exactly k arcs leads over followers alone from u to v
unfoldable pub walks : Graph → List ℕ → ℕ → ℕ → ℕ → Bool
walks g leaders v zero u = is_follower g leaders u && (u == v)
walks g leaders v (suc k) u = is_follower g leaders u && enters_led g (walks g leaders v k) u

-- k vertices of a walk that begins with u. The next vertex is always the least one that f allows
-- with as many arcs left.
unfoldable pub least_walk : Graph → (ℕ → ℕ → Bool) → ℕ → ℕ → List ℕ
least_walk g f zero u = []
least_walk g f (suc k) u = u ∷ least_walk g f k (first_step g (f k) u)

-- the cycle of k vertices that begins with v: each next vertex is the least from which a walk leads
-- back to v in the arcs that are left
abbrev pub shortest_cycle : Graph → List ℕ → ℕ → ℕ → Option (List ℕ)
shortest_cycle g leaders v k = only_if (walks g leaders v k v) (least_walk g (walks g leaders v) k v)

-- a shortest cycle of followers that begins with v
unfoldable pub traced_cycle : Graph → List ℕ → ℕ → Option (List ℕ)
traced_cycle g leaders v = first_given_answer (shortest_cycle g leaders v) (range_with_len 1 g.n)

-- a shortest cycle of followers through the least follower that lies on any, and of such cycles the
-- least in the order of their vertices
unfoldable pub follower_cycle : Graph → List ℕ → Option (List ℕ)
follower_cycle g leaders = first_given_answer (traced_cycle g leaders) (parties g)

-- whether the number at place u of the list has bit v
abbrev pub has_bit : List ℕ → ℕ → ℕ → Bool
has_bit row v u = bit_at (slice_index row u) v == 1

-- whether the number at place u of the k-th list has bit v
abbrev pub has_row_bit : List (List ℕ) → ℕ → ℕ → ℕ → Bool
has_row_bit rows v k u = has_bit (slice_index_or rows k []) v u

-- Bit v of the number at place u tells whether a walk of exactly k arcs leads over followers alone
-- from u to v.
pub record TellsWalks (g : Graph) (leaders : List ℕ) (k : ℕ) (row : List ℕ) : Type 0 where
  pub parties : length row ≡ g.n
  pub tells : (v u : ℕ) → has_bit row v u ≡ walks g leaders v k u

-- The lists, by number of arcs up to that of the parties, tell of the walks.
pub record TellAllWalks (g : Graph) (leaders : List ℕ) (rows : List (List ℕ)) : Type 0 where
  pub size : length rows ≡ g.n + 1
  pub row : (k : ℕ) → k ≤ g.n → TellsWalks g leaders k (slice_index_or rows k [])

-- the cycle of k vertices that begins with v; f tells, by the number of arcs, from which vertices a
-- walk leads to v
abbrev pub distance_cycle : Graph → (ℕ → ℕ → Bool) → ℕ → ℕ → Option (List ℕ)
distance_cycle g f v k = only_if (f k v) (least_walk g f k v)

-- The list is a cycle of distinct followers, and begins with its least.
pub record IsFollowerCycle (g : Graph) (leaders list : List ℕ) : Type 0 where
  pub first : ℕ
  pub last : ℕ
  -- distinct vertices, each with an arc to the next
  pub path : IsConnectingPath g first last list
  pub followers : IsTrue (are_followers leaders list)
  pub closes : IsTrue (has_arc g last first)
  pub least : (v : ℕ) → IsElement v list → first ≤ v

-- The list is a cycle of distinct followers that begins with v, and no such cycle is shorter.
pub record IsShortestFollowerCycle (g : Graph) (leaders : List ℕ) (v : ℕ) (list : List ℕ) : Type 0 where
  pub last : ℕ
  -- distinct vertices, each with an arc to the next
  pub path : IsConnectingPath g v last list
  pub followers : IsTrue (are_followers leaders list)
  pub closes : IsTrue (has_arc g last v)
  pub shortest : (other : List ℕ) (end : ℕ) → IsConnectingPath g v end other → IsTrue (are_followers leaders other) → IsTrue (has_arc g end v)
      → length list ≤ length other
