-- The run of what is written of a number is the one that its summary tells of.
use Rattle.std.proofs.Common.{◌≡◌, ℕ, zero, suc, false, replicate, refl, ap, ◌∙◌}
use Rattle.std.specs.List.{list_any}
use Rattle.swap_job.specs.declared.job.Purpose.TheVariants.{Run}
use Rattle.swap_job.specs.declared.job.Role.TheVariants.{Conforming}
use Rattle.swap_run.specs.Asked.{is_strategy, with_answers, Answers}
use Rattle.swap_run.specs.Fair.{finish}
use Rattle.swap_run.specs.Run.{run, start, Cast, State}
use Rattle.swap_run.proofs.Asked.{finishes_without_strategies, runs_without_strategies}
use Rattle.swap_world.specs.Cast.{job_cast}
use Rattle.swap_gen.specs.Drawn.{plain_job}
use Rattle.swap_gen.specs.Events.{generated_events}
use Rattle.made_jobs.specs.Generating.{generated_book}
use Rattle.read_back.specs.Made.{told_job, GeneratedRunIsSummed}

none_asks : (n : ℕ) → list_any is_strategy (replicate n Conforming) ≡ false
none_asks zero = refl
none_asks (suc n) = none_asks n

module _ (answers : Answers) (seed parties events : ℕ) where
  abbrev cast : Cast
  cast = job_cast (told_job Run (plain_job seed parties))

  nobody_asks : list_any is_strategy cast.roles ≡ false
  unfolding plain_job
  nobody_asks = none_asks parties

  same_run : run (with_answers cast answers) (generated_events seed parties events) ≡ run cast (generated_events seed parties events)
  same_run = runs_without_strategies cast answers (start cast) (generated_events seed parties events) nobody_asks

  pub same_book : (finish (with_answers cast answers) (run (with_answers cast answers) (generated_events seed parties events))).book
      ≡ generated_book seed parties events
  unfolding generated_book
  same_book =
      ap (λ (s : State). (finish (with_answers cast answers) s).book) same_run
      ∙ ap (λ (s : State). s.book) (finishes_without_strategies cast answers (run cast (generated_events seed parties events)) nobody_asks)

pub generated_run_is_summed : GeneratedRunIsSummed
generated_run_is_summed answers seed parties events = same_book answers seed parties events
