-- What want of memory leaves of a world, and where all parties conform.
use Rattle.std.specs.Prelude.{◌≡◌, ◌<◌, ◌≤◌, ℕ, true, List, length, take}
use Rattle.swap_job.specs.declared.event.Event.{Event}
use Rattle.swap_run.specs.Run.{Cast, State, conforms, continued_run}
use Rattle.swap_run.specs.Steps.{IsIntermediateBook}
use Rattle.swap_run.specs.Asked.{Answers}
use Rattle.swap_world.specs.Value.{WorldState, world_cast, answering_cast, Continues}
use Rattle.swap_world.specs.Gone.{MayGive, HasAsked}

-- The world has stopped on the way along these steps, whatever would have been answered: its
-- histories are those after some first part of the steps.
pub record IsStopped (gives : MayGive) (steps : Cast → State → List Event) (old new : WorldState) : Type 0 where
  pub stopped : new.stopped ≡ true
  pub cast : world_cast new ≡ world_cast old
  pub asked : HasAsked gives old new
  pub book : (g : Answers) → Continues new g → IsIntermediateBook (answering_cast old g) old.state (steps (answering_cast old g) old.state) new.state.book

-- The histories are those after the first `count` of these events, whatever strategies would have
-- answered later.
pub record IsAfterSome (events : List Event) (old new : WorldState) : Type 0 where
  pub count : ℕ
  pub few : count ≤ length events
  pub book : (g : Answers) → Continues new g → new.state.book ≡ (continued_run (answering_cast old g) old.state (take count events)).book

-- every party conforms
abbrev pub AllWorldPartiesConform : WorldState → Type 0
AllWorldPartiesConform w = (v : ℕ) → v < w.deal.graph.n → conforms (world_cast w) v ≡ true
