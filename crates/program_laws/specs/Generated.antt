-- The run of what `gen` writes is the one that the number's summary tells of.
use Rattle.std.specs.Prelude.{◌≡◌, ◌≤◌, ℕ, Bool, List, Ok}
use Rattle.swap_job.specs.declared.job.Purpose.TheVariants as purposes
use Rattle.swap_gen.specs.Drawn.{plain_job}
use Rattle.made_jobs.specs.Generating.{generated_book, generated_text}
use Rattle.read_back.specs.Made.{told_job}
use Rattle.command_input.specs.Written.{Written}
use Rattle.swap_commands.specs.Generated.{summary_output}
use Rattle.swap_commands.specs.Output.{output_given_chance, reported, Chance}
use Rattle.swap_commands.specs.Words.{OfJob, Run}
use Rattle.program_words.specs.declared.task.Request.{Request}

-- What is reported of the book that the number's summary tells of: it is found whatever the summary
-- finds.
abbrev pub summed : Bool → Request → Written
summed transcript r = reported transcript (told_job purposes.Run (plain_job r.seed r.parties)) (generated_book r.seed r.parties r.events)

-- A run of what `gen` writes of a number, with at most 200,000 events, writes the report, or the
-- transcript, of that book. It does so whatever strategies exist and whatever chance decides. It
-- tells of a finding where the summary does.
abbrev pub GeneratedRunsAreSummed : Type 0
GeneratedRunsAreSummed =
    (has : List ℕ → Bool) (chance : Chance) (transcript : Bool) (r : Request) → 2 ≤ r.parties → r.parties ≤ 24 → r.events ≤ 200000
    → (output_given_chance has chance (OfJob (Run transcript)) (generated_text r.seed r.parties r.events) ≡ Ok (summed transcript r))
    × ((summed transcript r).found ≡ (summary_output r).found)
