-- How a race stands between two rounds.
use Rattle.std.specs.Prelude.{◌≡◌, ℕ, ◌+◌, ◌<◌, ◌≤◌, Bool, false, List, [], length, map, slice_index_or, Option, Some, None}
use Rattle.std.specs.List.{range_with_len}
use Rattle.swap_digraph.specs.declared.deal.Deal.{Deal}
use Rattle.ledger_core.specs.declared.entry.Entry.{Entry}
use Rattle.ledger_core.specs.History.{height}
use Rattle.ledger_core.specs.Value.{LedgerState}
use Rattle.ledger_core.specs.Book.{Histories, history}
use Rattle.ledger_shared.specs.Value.{ticks_in_order}
use Rattle.swap_job.specs.Roles.{job_role}
use Rattle.swap_job.specs.declared.job.Job.{Job}
use Rattle.swap_job.specs.declared.job.Role.{Role}
use Rattle.swap_job.specs.declared.job.Role.TheVariants as kinds
use Rattle.swap_run.specs.Run.{Notes, Plan, State, no_notes, first_plan}
use Rattle.swap_rules.specs.Machine.{Knows}
use Rattle.swap_run.specs.Laws.{IsReadyCast, IsGood}
use Rattle.swap_world.specs.Cast.{job_cast}
use Rattle.swap_world.specs.Inside.{IsPartyActor, actor_notes, actor_plan}
use Rattle.swap_world.specs.declared.player.Player.TheVariants.{Planned}
use Rattle.party_threads.specs.declared.turn.Actor.{Actor}
use Rattle.party_threads.specs.declared.turn.Actor.TheVariants.{Party, Clock}
use Rattle.party_threads.specs.declared.turn.Turn.{Turn}
use Rattle.party_threads.specs.Turns.{turn_actor, AreHome, HavePlaces, AreFree}

abbrev pub home_history : Option LedgerState → List Entry
home_history (Some l) = l.history
home_history None = []

abbrev pub race_book : List (Option LedgerState) → Histories
race_book ls = map home_history ls

-- what the party has noted, where it conforms
abbrev pub turn_actor_notes : Deal → Actor → Notes
turn_actor_notes d (Party x) = actor_notes d x
turn_actor_notes d Clock = no_notes d

abbrev pub turn_notes : Deal → List Turn → ℕ → Notes
turn_notes d ts v = turn_actor_notes d (turn_actor ts v)

-- what the party plans, where it follows a script or a strategy
abbrev pub race_plan : Deal → Actor → Plan
race_plan d (Party x) = actor_plan d x
race_plan d Clock = first_plan d kinds.Manual

abbrev pub turn_plan : Deal → List Turn → ℕ → Plan
turn_plan d ts v = race_plan d (turn_actor ts v)

abbrev pub race_state : Job → List (Option LedgerState) → List Turn → State
race_state job ls ts = record {
  book = race_book ls;
  notes = map (turn_notes job.deal ts) (range_with_len 0 job.deal.graph.n);
  plans = map (turn_plan job.deal ts) (range_with_len 0 job.deal.graph.n);
  asked = [];
}

-- The actor is the one of party v of the deal. The party conforms or not, as `conforms` tells, and
-- has this seed and this role.
abbrev pub IsPartyTurnActor : Deal → Bool → Option (List ℕ) → Role → ℕ → Actor → Type 0
IsPartyTurnActor d conforms seed role v (Party x) = IsPartyActor d conforms seed role v x
IsPartyTurnActor d conforms seed role v Clock = ⊥

-- The actor of party v of the job.
abbrev pub IsJobActor : Job → ℕ → Actor → Type 0
IsJobActor job v x = IsPartyTurnActor job.deal (slice_index_or job.conforming v false) (slice_index_or job.seeds v None) (job_role job v) v x

-- what the actor v plans by holds all its calls
abbrev pub KnowsOwn : ℕ → Actor → Histories → Type 0
KnowsOwn v (Party (Planned n)) b = (a : ℕ) → Knows v (history n.known a) (history b a)
KnowsOwn v _ b = Unit {0}

-- Every ledger is at home, and nobody has a pass; what the parties know and did so far is good.
pub record StandsHome (job : Job) (ls : List (Option LedgerState)) (ts : List Turn) : Type 0 where
  pub cast : IsReadyCast (job_cast job)
  pub home : AreHome job.deal ls
  pub places : HavePlaces job.deal ts
  pub free : AreFree job.deal ts
  pub actors : (v : ℕ) → v < job.deal.graph.n → IsJobActor job v (turn_actor ts v)
  pub clock : turn_actor ts job.deal.graph.n ≡ Clock
  pub good : IsGood (job_cast job) (race_state job ls ts)
  pub own : (v : ℕ) → v < job.deal.graph.n → KnowsOwn v (turn_actor ts v) (race_book ls)

-- The history of arc a takes a further tick.
pub record HasTickRoom (ticks : ℕ) (h : List Entry) : Type 0 where
  pub few : length (ticks_in_order h) < 20000
  pub low : height h + ticks ≤ 1000000

-- each ledger takes a further tick
abbrev pub AllHaveRoom : ℕ → Deal → Histories → Type 0
AllHaveRoom ticks d b = (a : ℕ) → a < length d.graph.arcs → HasTickRoom ticks (history b a)
