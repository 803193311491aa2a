-- Paths of a digraph, its leaders, and how far a party stands from them.
use Rattle.std.specs.Prelude.{◌≡◌, ◌≢◌, ◌⊎◌, ℕ, ◌-◌, ◌<◌, ◌≤◌, Bool, false, not, ◌&&◌, ◌==◌, nat_lt, IsTrue, List, [], ◌∷◌}
use Rattle.std.specs.Prelude.{length, filter, slice_index_or}
use Rattle.std.specs.List.{list_any, list_all, range_with_len}
use Rattle.swap_digraph.specs.declared.arc_ends.ArcEnds.{ArcEnds}
use Rattle.swap_digraph.specs.Value.{Graph}

-- the ends of the arc with that number
abbrev pub resolve_all_ends : List ArcEnds → ℕ → ArcEnds
resolve_all_ends arcs a = slice_index_or arcs a (record { from = 0; to = 0 })

abbrev pub leaving_numbers : List ArcEnds → ℕ → List ℕ
leaving_numbers arcs v = filter (λ a. (resolve_all_ends arcs a).from == v) (range_with_len 0 (length arcs))

abbrev pub entering_numbers : List ArcEnds → ℕ → List ℕ
entering_numbers arcs v = filter (λ a. (resolve_all_ends arcs a).to == v) (range_with_len 0 (length arcs))

abbrev pub ends : Graph → ℕ → ArcEnds
ends g a = resolve_all_ends g.arcs a

-- the parties, by number
abbrev pub parties : Graph → List ℕ
parties g = range_with_len 0 g.n

-- the arcs, by number
abbrev pub arcs : Graph → List ℕ
arcs g = range_with_len 0 (length g.arcs)

-- the arcs that leave v, ascending
abbrev pub leaving : Graph → ℕ → List ℕ
leaving g v = leaving_numbers g.arcs v

-- the arcs that enter v, ascending
abbrev pub entering : Graph → ℕ → List ℕ
entering g v = entering_numbers g.arcs v

abbrev pub is_listed : ℕ → List ℕ → Bool
is_listed v vs = list_any (λ w. w == v) vs

abbrev pub has_arc : Graph → ℕ → ℕ → Bool
has_arc g u v = list_any (λ a. (a.from == u) && (a.to == v)) g.arcs

-- a nonempty list of distinct vertices, each with an arc to the next
abbrev pub is_path : Graph → List ℕ → Bool
is_path g [] = false
is_path g (v ∷ []) = nat_lt v g.n
is_path g (u ∷ v ∷ p) = nat_lt u g.n && not (is_listed u (v ∷ p)) && has_arc g u v && is_path g (v ∷ p)

abbrev pub last_is : ℕ → List ℕ → Bool
last_is v [] = false
last_is v (u ∷ []) = u == v
last_is v (u ∷ w ∷ p) = last_is v (w ∷ p)

abbrev pub first_is : ℕ → List ℕ → Bool
first_is v [] = false
first_is v (u ∷ p) = u == v

-- |p|
abbrev pub listed_arcs : List ℕ → ℕ
listed_arcs p = length p - 1

-- a path from u to v
abbrev pub IsConnectingPath : Graph → ℕ → ℕ → List ℕ → Type 0
IsConnectingPath g u v p = IsTrue (is_path g p) × IsTrue (first_is u p) × IsTrue (last_is v p)

abbrev pub IsStronglyConnected : Graph → Type 0
IsStronglyConnected g = (u v : ℕ) → u < g.n → v < g.n → u ≢ v → (p : List ℕ) × IsConnectingPath g u v p

-- none of the vertices is a leader
abbrev pub are_followers : List ℕ → List ℕ → Bool
are_followers leaders p = list_all (λ v. not (is_listed v leaders)) p

-- no path of followers alone closes to a cycle
abbrev pub IsFeedback : Graph → List ℕ → Type 0
IsFeedback g leaders = (u v : ℕ) (p : List ℕ) → IsConnectingPath g u v p → IsTrue (are_followers leaders p) → has_arc g v u ≡ false

-- h is the most vertices on a path of followers alone
pub record IsHeight (g : Graph) (leaders : List ℕ) (h : ℕ) : Type 0 where
  pub reached : (h ≡ 0) ⊎ ((p : List ℕ) × IsTrue (is_path g p) × IsTrue (are_followers leaders p) × (length p ≡ h))
  pub most : (p : List ℕ) → IsTrue (is_path g p) → IsTrue (are_followers leaders p) → length p ≤ h

-- d is the greatest number of arcs on a path from v to the leader
pub record IsDist (g : Graph) (leader v d : ℕ) : Type 0 where
  pub reached : (p : List ℕ) × IsConnectingPath g v leader p × (listed_arcs p ≡ d)
  pub most : (p : List ℕ) → IsConnectingPath g v leader p → listed_arcs p ≤ d

-- No two arcs have the same ends.
abbrev pub HasDistinctEnds : Graph → Type 0
HasDistinctEnds g = (a b : ℕ) → a < length g.arcs → b < length g.arcs → ends g a ≡ ends g b → a ≡ b

-- Every arc leads from one party to another.
pub record HasEnds (g : Graph) : Type 0 where
  pub from : (a : ℕ) → a < length g.arcs → (ends g a).from < g.n
  pub to : (a : ℕ) → a < length g.arcs → (ends g a).to < g.n
  pub apart : (a : ℕ) → a < length g.arcs → (ends g a).from ≢ (ends g a).to
