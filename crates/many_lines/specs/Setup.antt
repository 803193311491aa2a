-- What runs of swaps that were read, and the events that can come in it.
use Rattle.std.specs.Prelude.{◌≡◌, ℕ, true, List, length}
use Rattle.swap_job.specs.declared.event.Event.{Event}
use Rattle.swap_job.specs.declared.job.Job.{Job}
use Rattle.swap_job.specs.Step.{IsJobEvent}
use Rattle.swap_run.specs.Asked.{Answers, with_answers}
use Rattle.swap_run.specs.CalledLaws.{is_no_tick}
use Rattle.swap_world.specs.Cast.{job_cast}
use Rattle.swap_many.specs.Chains.{Setup}
use Rattle.swap_many.specs.Laws.{CanCome}
use Rattle.swap_many.specs.declared.many_event.ManyEvent.{ManyEvent}
use Rattle.swap_many.specs.declared.many_event.ManyEvent.TheVariants.{In}
use Rattle.swap_many.specs.declared.place.Place.{Place}
use Rattle.many_lines.specs.Places.{job_of_swap}
use Rattle.many_lines.specs.declared.many_job.ManyJob.{ManyJob}

-- what runs, where the strategies of swap s answer g s
abbrev pub setup_with_answers : (ℕ → Answers) → ManyJob → List (List Place) → Setup
setup_with_answers g many places =
    record { swaps = length many.jobs; cast = λ s. with_answers (job_cast (job_of_swap many.jobs s)) (g s); places = places; chains = many.units }

-- the event can come, wherever the arcs stand and whatever strategies answer
abbrev pub MayCome : ManyJob → ManyEvent → Type 0
MayCome many e = (g : ℕ → Answers) (places : List (List Place)) → CanCome (setup_with_answers g many places) e

-- An event of swap s that can come in its job, and no tick.
pub record IsSwapEvent (s : ℕ) (job : Job) (e : ManyEvent) : Type 0 where
  pub event : Event
  pub is : e ≡ In s event
  pub no_tick : is_no_tick event ≡ true
  pub can : IsJobEvent job event
