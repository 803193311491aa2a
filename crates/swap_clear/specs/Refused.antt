-- What a refusal says.
use Rattle.std.specs.Prelude.{◌≡◌, ◌≢◌, ◌⊎◌, ◌==◌, ◌&&◌, Bool, not, IsTrue, ℕ, ◌<◌, ◌≤◌, length, filter}
use Rattle.std.specs.List.{range_with_len}
use Rattle.swap_base.specs.declared.fault.Fault.{Fault}
use Rattle.swap_base.specs.declared.fault.Fault.TheVariants.{Refused, NoMemory}
use Rattle.swap_digraph.specs.Value.{Graph}
use Rattle.swap_digraph.specs.Graph.{ends, first_is}
use Rattle.swap_clear.specs.Groups.{strong_component, inner_arcs, own_graph}
use Rattle.swap_clear.specs.Led.{SoManyRemain}
use Rattle.swap_clear.specs.declared.fault.ClearReason.{ClearReason}
use Rattle.swap_clear.specs.declared.fault.ClearReason.TheVariants.{OutOfRange, SelfArc, TooManyLeaders}

-- Both ends of the arc are parties, and it leads from one to another.
abbrev pub IsSoundArc : Graph → ℕ → Type 0
IsSoundArc g a = ((ends g a).from < g.n) × ((ends g a).to < g.n) × ((ends g a).from ≢ (ends g a).to)

-- the own digraph of the group of v
abbrev pub own_group_graph : Graph → ℕ → Graph
own_group_graph g v = own_graph g (strong_component g v) (inner_arcs g (strong_component g v))

-- whether v is the least party of a group that has arcs
abbrev pub is_least : Graph → ℕ → Bool
is_least g v = first_is v (strong_component g v) && not (length (inner_arcs g (strong_component g v)) == 0)

-- Groups are numbered by their least party. When the parties of this group are dropped in order,
-- `count` leaders remain, more than 8. Of each group before it at most 8 remain.
pub record IsTooMany (g : Graph) (group count : ℕ) : Type 0 where
  pub head : ℕ
  pub party : head < g.n
  pub least : IsTrue (is_least g head)
  pub number : group ≡ length (filter (is_least g) (range_with_len 0 head))
  pub leaders : SoManyRemain (own_group_graph g head) count
  pub many : 8 < count
  pub before : (v : ℕ) → v < head → IsTrue (is_least g v) → (few : ℕ) × SoManyRemain (own_group_graph g v) few × (few ≤ 8)

-- The arc has that fault: an end that is no party, or else one party at both ends. Too many leaders
-- are of a digraph whose arcs are sound.
abbrev pub IsFault : Graph → ClearReason → Type 0
IsFault g (OutOfRange k) = (k < length g.arcs) × ((g.n ≤ (ends g k).from) ⊎ (g.n ≤ (ends g k).to)) × ((a : ℕ) → a < k → IsSoundArc g a)
IsFault g (SelfArc k) = (k < length g.arcs) × ((ends g k).from < g.n) × ((ends g k).from ≡ (ends g k).to) × ((a : ℕ) → a < k → IsSoundArc g a)
IsFault g (TooManyLeaders group count) = IsTooMany g group count × ((a : ℕ) → a < length g.arcs → IsSoundArc g a)

-- What holds of the reason, where the fault has one.
abbrev pub IfRefused : Fault ClearReason → (ClearReason → Type 0) → Type 0
IfRefused (Refused reason) P = P reason
IfRefused NoMemory P = Unit {0}
