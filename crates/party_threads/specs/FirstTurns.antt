-- The turns of a job as a race begins.
use Rattle.std.specs.Prelude.{◌≡◌, ℕ, ◌<◌, ◌+◌, List, [], ◌∷◌, ◌++◌, length, replicate, slice_get, Some, None}
use Rattle.swap_digraph.specs.declared.deal.Deal.{Deal}
use Rattle.swap_job.specs.declared.job.Job.{Job}
use Rattle.swap_world.specs.Actors.{job_actor}
use Rattle.party_threads.specs.declared.turn.Actor.{Actor}
use Rattle.party_threads.specs.declared.turn.Actor.TheVariants.{Party, Clock}
use Rattle.party_threads.specs.declared.turn.Turn.{Turn}

-- The turn of an actor that has no pass yet.
pub record IsNewTurn (d : Deal) (x : Actor) (t : Turn) : Type 0 where
  pub actor : t.actor ≡ x
  pub passes : t.passes.items ≡ replicate (length d.graph.arcs) None
  pub clocks : t.clocks.items ≡ replicate (length d.graph.arcs) None

-- The turn of an actor was added.
pub record HasNewTurn (d : Deal) (x : Actor) (old new : List Turn) : Type 0 where
  pub turn : Turn
  pub is : IsNewTurn d x turn
  pub added : new ≡ old ++ turn ∷ []

-- The turns of a job's parties and of the clock, before any round.
pub record AreNew (job : Job) (ts : List Turn) : Type 0 where
  pub number : length ts ≡ job.deal.graph.n + 1
  pub each : (p : ℕ) (t : Turn) → p < job.deal.graph.n → slice_get ts p ≡ Some t → IsNewTurn job.deal (Party (job_actor job p)) t
  pub clock : (t : Turn) → slice_get ts job.deal.graph.n ≡ Some t → IsNewTurn job.deal Clock t
