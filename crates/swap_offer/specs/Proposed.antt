-- Deals that lack only what their parties' seeds give, as a plain job states them.
use Rattle.std.specs.Prelude.{◌≡◌, ℕ, ◌<◌, ◌≤◌, ◌^◌, List, Option, None, IsSome, length, slice_index_or}
use Rattle.time_bounds.specs.Times as times
use Rattle.swap_digraph.specs.Graph.{HasEnds, IsStronglyConnected, IsFeedback, IsHeight}
use Rattle.swap_digraph.specs.declared.deal.Deal.{Deal}
use Rattle.swap_digraph.specs.declared.deal.Mode.{Mode}
use Rattle.swap_digraph.specs.declared.deal.Mode.TheVariants.{Timelocks, Hashkeys}
use Rattle.swap_digraph.specs.Deal.{lock_leader, amount, most_parties, most_arcs}
use Rattle.swap_rules.specs.Accepted.{IsOfVersion}
use Rattle.swap_job.specs.declared.job.Job.{Job}

-- with timelocks there is one leader
abbrev pub HasModeLeaders : Mode → Deal → Type 0
HasModeLeaders Timelocks d = length d.leaders ≡ 1
HasModeLeaders Hashkeys d = Unit {0}

-- The digraph, the leaders, the times and the amounts are those of an accepted deal; of hashlocks,
-- keys, timelocks and id nothing is said.
pub record IsProposed (d : Deal) : Type 0 where
  pub parties : (2 ≤ d.graph.n) × (d.graph.n ≤ most_parties d.version)
  pub arcs : (2 ≤ length d.graph.arcs) × (length d.graph.arcs ≤ most_arcs d.version)
  pub ends : HasEnds d.graph
  pub of_version : IsOfVersion d.version d
  pub strong : IsStronglyConnected d.graph
  pub leaders : (1 ≤ length d.leaders) × (length d.leaders ≤ 8)
  pub leader : (i : ℕ) → i < length d.leaders → lock_leader d i < d.graph.n
  pub apart : (i j : ℕ) → i < length d.leaders → j < length d.leaders → lock_leader d i ≡ lock_leader d j → i ≡ j
  pub led : HasModeLeaders d.mode d
  pub feedback : IsFeedback d.graph d.leaders
  -- the most vertices on a path of followers alone
  pub height : ℕ
  pub is_height : IsHeight d.graph d.leaders height
  pub delta : (1 ≤ d.delta) × (d.delta ≤ 100)
  pub start : (d.delta ≤ d.start) × (d.start ≤ 1000)
  pub bound : (times.need d.graph.n (length d.leaders) height ≤ d.bound) × (d.bound ≤ 64)
  pub one_amount_each : length d.amounts ≡ length d.graph.arcs
  pub amounts : (a : ℕ) → a < length d.graph.arcs → (1 ≤ amount d a) × (amount d a ≤ 10 ^ 12)

-- every party has a seed
abbrev pub HaveSeeds : Job → Type 0
HaveSeeds job = (p : ℕ) → p < job.deal.graph.n → IsSome (slice_index_or {A = Option (List ℕ)} job.seeds p None)
