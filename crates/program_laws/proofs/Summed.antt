-- A run of what `gen` writes writes the report of the book that the summary tells of.
use Rattle.std.proofs.Common.{◌≡◌, ◌≤◌, ℕ, Bool, List, Ok, refl, ap, ◌∙◌}
use Rattle.ledger_core.specs.Book.{Histories}
use Rattle.swap_job.specs.declared.job.Job.{Job}
use Rattle.swap_job.specs.declared.job.Purpose.TheVariants as purposes
use Rattle.command_input.specs.Lines.{filled_lines, collect_lines}
use Rattle.swap_gen.specs.Drawn.{plain_job}
use Rattle.swap_gen.specs.Events.{generated_events}
use Rattle.made_jobs.specs.Generating.{generated_book, generated_text}
use Rattle.read_back.specs.Made.{told_job}
use Rattle.read_back.proofs.Generated.{generated_text_is_read_back}
use Rattle.read_back.proofs.Runs.{same_book}
use Rattle.swap_commands.specs.Generated.{summary_output}
use Rattle.swap_commands.specs.Output.{collected_book, output_given_chance, job_output, reported, Chance}
use Rattle.swap_commands.specs.Words.{OfJob, Run}
use Rattle.program_words.specs.declared.task.Request.{Request}
use Rattle.program_laws.specs.Generated.{summed, GeneratedRunsAreSummed}

module _ (has : List ℕ → Bool) (chance : Chance) (transcript : Bool) (r : Request) (many : 2 ≤ r.parties) (few : r.parties ≤ 24)
    (few_events : r.events ≤ 200000) where
  abbrev job : Job
  job = told_job purposes.Run (plain_job r.seed r.parties)

  -- the job asks for a fair finish
  book_is : collected_book chance.answers job (generated_events r.seed r.parties r.events) ≡ generated_book r.seed r.parties r.events
  unfolding plain_job
  book_is = same_book chance.answers r.seed r.parties r.events

  run_is : output_given_chance has chance (OfJob (Run transcript)) (generated_text r.seed r.parties r.events) ≡ Ok (summed transcript r)
  unfolding output_given_chance
  run_is =
      ap (job_output chance (Run transcript) (filled_lines 1 (collect_lines (generated_text r.seed r.parties r.events))))
      (generated_text_is_read_back has r.seed r.parties r.events many few few_events purposes.Run refl tt)
      ∙ ap (λ (b : Histories). Ok (reported transcript job b)) book_is

  found_is : (summed transcript r).found ≡ (summary_output r).found
  unfolding reported
  found_is = refl

pub generated_runs_are_summed : GeneratedRunsAreSummed
generated_runs_are_summed has chance transcript r many few few_events =
    (run_is has chance transcript r many few few_events, found_is has chance transcript r many few few_events)
