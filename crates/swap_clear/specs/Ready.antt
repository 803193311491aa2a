-- What an accepted deal of version 2 asks of digraph, leaders, times and amounts (`swap_rules`,
-- Accepted), of a group.
use Rattle.std.specs.Prelude.{◌≡◌, ℕ, ◌<◌, ◌≤◌, ◌^◌, List, length, map, slice_index, slice_index_or}
use Rattle.time_bounds.specs.Times as times
use Rattle.swap_digraph.specs.Value.{Graph}
use Rattle.swap_digraph.specs.Graph.{HasEnds, IsStronglyConnected, IsFeedback, IsHeight}
use Rattle.swap_clear.specs.declared.proposed.Proposed.{Proposed}
use Rattle.swap_clear.specs.declared.answer.Group.{Group}
use Rattle.swap_clear.specs.Led.{own, own_leaders}

-- The sentences of an accepted deal of version 2 on its digraph, leaders, times and amounts.
pub record IsReady (g : Graph) (led : List ℕ) (from ticks most : ℕ) (units : List ℕ) : Type 0 where
  pub parties : (2 ≤ g.n) × (g.n ≤ 32)
  pub arcs : (2 ≤ length g.arcs) × (length g.arcs ≤ 128)
  pub ends : HasEnds g
  pub strong : IsStronglyConnected g
  pub leaders : (1 ≤ length led) × (length led ≤ 8)
  pub leader : (i : ℕ) → i < length led → slice_index led i < g.n
  pub apart : (i j : ℕ) → i < length led → j < length led → slice_index led i ≡ slice_index led j → i ≡ j
  pub feedback : IsFeedback g led
  -- the most vertices on a path of followers alone
  pub height : ℕ
  pub is_height : IsHeight g led height
  pub delta : (1 ≤ ticks) × (ticks ≤ 100)
  pub start : (ticks ≤ from) × (from ≤ 1000)
  pub bound : (times.need g.n (length led) height ≤ most) × (most ≤ 64)
  pub one_amount_each : length units ≡ length g.arcs
  pub amounts : (a : ℕ) → a < length g.arcs → (1 ≤ slice_index units a) × (slice_index units a ≤ 10 ^ 12)

-- the units of that proposal
abbrev pub proposed_amount : List Proposed → ℕ → ℕ
proposed_amount arcs a = (slice_index_or arcs a (record { from = 0; to = 0; amount = 0 })).amount

-- the amounts of the group's arcs
abbrev pub own_amounts : List Proposed → Group → List ℕ
own_amounts arcs group = map (proposed_amount arcs) group.arcs

-- With any start and delta that an accepted deal may have, the group makes an accepted deal.
abbrev pub MakesADeal : Graph → List Proposed → Group → Type 0
MakesADeal g arcs group =
    (start delta : ℕ) → (1 ≤ delta) × (delta ≤ 100) → (delta ≤ start) × (start ≤ 1000)
    → IsReady (own g group) (own_leaders group) start delta group.bound (own_amounts arcs group)

-- Each amount is 1 to 10^12.
abbrev pub AreAmounts : List Proposed → Type 0
AreAmounts arcs = (a : ℕ) → a < length arcs → (1 ≤ proposed_amount arcs a) × (proposed_amount arcs a ≤ 10 ^ 12)
