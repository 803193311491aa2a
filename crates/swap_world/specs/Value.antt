-- What callers see of a world.
use Rattle.std.specs.Prelude.{◌≡◌, ◌<◌, ℕ, List, [], length, slice_index_or, Option, None, Bool, false}
use Rattle.swap_digraph.specs.declared.deal.Deal.{Deal}
use Rattle.ledger_core.specs.declared.entry.Call.{Call}
use Rattle.swap_job.specs.declared.job.Job.{Job}
use Rattle.swap_job.specs.declared.job.Role.{Role}
use Rattle.swap_run.specs.Run.{Cast, State, start}
use Rattle.swap_run.specs.Asked.{Answers, with_answers}
use Rattle.swap_world.specs.Cast.{made_cast, job_cast}

pub record WorldState : Type 0 where
  pub deal : Deal
  -- which parties conform
  pub conforming : List Bool
  -- the seed of each party, where it is there
  pub seeds : List (Option (List ℕ))
  -- how each party acts
  pub roles : List Role
  -- what strategies answered, in the order in which they were asked
  pub answers : List (Option (ℕ × Call))
  pub state : State
  -- memory ran out in an earlier step
  pub stopped : Bool

-- who takes part, but for what strategies answer
abbrev pub world_cast : WorldState → Cast
world_cast w = made_cast w.deal w.conforming w.seeds w.roles

-- who takes part, where strategies answer g
abbrev pub answering_cast : WorldState → Answers → Cast
answering_cast w g = with_answers (world_cast w) g

-- the answers so far, and none after them
abbrev pub world_answers : WorldState → Answers
world_answers w = λ k. slice_index_or w.answers k None

-- the answers begin with those so far
abbrev pub Continues : WorldState → Answers → Type 0
Continues w g = (i : ℕ) → i < length w.answers → g i ≡ slice_index_or w.answers i None

-- the world of a job before any event
abbrev pub new_world : Job → WorldState
new_world job = record {
  deal = job.deal;
  conforming = job.conforming;
  seeds = job.seeds;
  roles = job.roles;
  answers = [];
  state = start (job_cast job);
  stopped = false;
}
