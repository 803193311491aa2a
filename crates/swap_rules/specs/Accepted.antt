-- The deals that are accepted (Herlihy 2018, sections 2 and 4, with limits on every number).
use Rattle.std.specs.Prelude.{◌≡◌, ℕ, ◌<◌, ◌≤◌, ◌^◌, length, slice_index}
use Rattle.time_bounds.specs.Times as times
use Rattle.swap_digraph.specs.Graph.{HasEnds, HasDistinctEnds, IsStronglyConnected, IsFeedback, IsHeight, IsDist}
use Rattle.swap_digraph.specs.declared.deal.Deal.{Deal}
use Rattle.swap_digraph.specs.declared.deal.Mode.{Mode}
use Rattle.swap_digraph.specs.declared.deal.Mode.TheVariants.{Timelocks, Hashkeys}
use Rattle.swap_digraph.specs.declared.deal.Version.{Version}
use Rattle.swap_digraph.specs.declared.deal.Version.TheVariants.{One, Two}
use Rattle.swap_digraph.specs.Deal.{counterparty, lock_leader, amount, most_parties, most_arcs, HasKeys}
use Rattle.hashkey_path.specs.Digest.{deal_id}

-- The timelock of arc a goes by the greatest number of arcs on a path from its counterparty to the
-- leader.
pub record HasTimelock (d : Deal) (a : ℕ) : Type 0 where
  pub dist : ℕ
  pub is_dist : IsDist d.graph (lock_leader d 0) (counterparty d a) dist
  pub timelock : slice_index d.timelocks a ≡ times.timelock d.start d.delta d.bound dist

-- With timelocks there is one leader, and each arc has its timelock; with hashkeys all timelocks
-- are 0.
abbrev pub IsTimed : Mode → Deal → Type 0
IsTimed Timelocks d = (length d.leaders ≡ 1) × ((a : ℕ) → a < length d.graph.arcs → HasTimelock d a)
IsTimed Hashkeys d = (a : ℕ) → a < length d.graph.arcs → slice_index d.timelocks a ≡ 0

-- In version 1 no two arcs have the same ends, and in version 2 the mode is hashkeys.
abbrev pub IsOfVersion : Version → Deal → Type 0
IsOfVersion One d = HasDistinctEnds d.graph
IsOfVersion Two d = d.mode ≡ Hashkeys

-- An accepted deal.
pub record IsAccepted (d : Deal) : Type 0 where
  pub parties : (2 ≤ d.graph.n) × (d.graph.n ≤ most_parties d.version)
  pub arcs : (2 ≤ length d.graph.arcs) × (length d.graph.arcs ≤ most_arcs d.version)
  pub ends : HasEnds d.graph
  pub of_version : IsOfVersion d.version d
  pub strong : IsStronglyConnected d.graph
  pub leaders : (1 ≤ length d.leaders) × (length d.leaders ≤ 8)
  pub leader : (i : ℕ) → i < length d.leaders → lock_leader d i < d.graph.n
  pub apart : (i j : ℕ) → i < length d.leaders → j < length d.leaders → lock_leader d i ≡ lock_leader d j → i ≡ j
  pub feedback : IsFeedback d.graph d.leaders
  -- the most vertices on a path of followers alone
  pub height : ℕ
  pub is_height : IsHeight d.graph d.leaders height
  pub delta : (1 ≤ d.delta) × (d.delta ≤ 100)
  pub start : (d.delta ≤ d.start) × (d.start ≤ 1000)
  pub bound : (times.need d.graph.n (length d.leaders) height ≤ d.bound) × (d.bound ≤ 64)
  pub one_amount_each : length d.amounts ≡ length d.graph.arcs
  pub amounts : (a : ℕ) → a < length d.graph.arcs → (1 ≤ amount d a) × (amount d a ≤ 10 ^ 12)
  pub hashlocks : length d.hashlocks ≡ length d.leaders
  pub keys : HasKeys d.mode d
  pub one_timelock_each : length d.timelocks ≡ length d.graph.arcs
  pub timed : IsTimed d.mode d
  -- the digest of all the rest
  pub id : d.id ≡ deal_id d
