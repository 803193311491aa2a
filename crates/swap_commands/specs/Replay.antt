-- A replay: something that steps at each event line.
use Rattle.std.specs.Prelude.{◌≡◌, ℕ, Bool, true, false, List, [], ◌∷◌, fold, Result, Ok, Err}
use Rattle.swap_base.specs.Fault.{◌>>=◌}
use Rattle.swap_job.specs.declared.job.Job.{Job}
use Rattle.swap_job.specs.declared.event.Event.{Event}
use Rattle.swap_job.specs.declared.job.Purpose.{Purpose}
use Rattle.swap_job.specs.declared.job.Purpose.TheVariants as purposes
use Rattle.command_input.specs.declared.reason.Reason.{Reason}
use Rattle.command_input.specs.declared.reason.Reason.TheVariants.{NotJson}
use Rattle.offer_events.specs.Event.{needs_seeds}
use Rattle.swap_offer.specs.Job.{IsWholeJob, parse_events, parse_header_job}
use Rattle.command_input.specs.Lines.{collect_lines, filled_lines}
use Rattle.swap_run.specs.Asked.{Answers}
use Rattle.swap_run.specs.Run.{State, step, start}
use Rattle.ledger_core.specs.Book.{Histories}
use Rattle.swap_world.specs.Gone.{MayGive}
use Rattle.swap_world.specs.Actors.{AreHeld}
use Rattle.swap_world.specs.Cast.{job_cast}
use Rattle.swap_world.specs.Value.{Continues, WorldState}
use Rattle.swap_gen.specs.Made.{made}
use Rattle.made_jobs.specs.Making.{copied, written_line}
use Rattle.made_jobs.specs.Generating.{IsJobWorld}
use Rattle.swap_commands.specs.Output.{AreGiven, Chance, command_cast, finished_state, plain_text, reported, written_check}
use Rattle.swap_world.specs.Recorded.{AreRecorded}
use Rattle.command_input.specs.Written.{Written}
use Rattle.swap_commands.specs.Words.{JobCommand, Check, Run, Race, Make}

-- what f makes of x along the events of lines; `n` events came before
unfoldable pub folded_events : {A : Type 0} → (A → Event → A) → Job → ℕ → A → List (ℕ × List ℕ) → Result A Reason
folded_events f job count x lines = parse_events job count lines >>= λ events. Ok (fold f x events)

-- The world is one of the job, and can take its next event, where these strategies exist.
pub record CanReplay (holds : List ℕ → Bool) (job : Job) (w : WorldState) : Type 0 where
  pub whole : IsWholeJob job
  pub seeds : needs_seeds job.purpose ≡ true
  pub is_world : IsJobWorld job w
  pub goes_on : w.stopped ≡ false
  pub held : AreHeld holds job.roles

-- The world w was finished with these histories. Each answer of a strategy is one that it may give,
-- and the disks have recorded what the conforming parties presented.
pub record IsConcluded (gives : MayGive) (job : Job) (w : WorldState) (b : Histories) : Type 0 where
  pub answers : Answers
  pub continues : Continues w answers
  pub given : AreGiven gives job.deal answers (finished_state job.finish (command_cast answers job) w.state).asked
  pub book : b ≡ (finished_state job.finish (command_cast answers job) w.state).book
  pub recorded : AreRecorded (command_cast answers job) (finished_state job.finish (command_cast answers job) w.state)

-- an event is read and passed over
abbrev pub skipped_event : Unit {0} → Event → Unit {0}
skipped_event u e = u

-- The lines of an input that isn't blank: its header is that of a job, and a walk along the others
-- leads to y.
pub record IsReadInput {A : Type 0} (has : List ℕ → Bool) (purpose : Purpose) (walk : Job → List (ℕ × List ℕ)
    → Result A Reason) (bytes : List ℕ) (job : Job) (y : A) : Type 0 where
  pub line : ℕ
  pub text : List ℕ
  pub others : List (ℕ × List ℕ)
  pub lines : filled_lines 1 (collect_lines bytes) ≡ (line, text) ∷ others
  pub header : parse_header_job has purpose line text ≡ Ok job
  pub leads : walk job others ≡ Ok y

-- the bytes are a job, and its events lead to the state, where strategies answer a
abbrev pub IsPlayed : (List ℕ → Bool) → Answers → List ℕ → Job → State → Type 0
IsPlayed has a bytes job s = IsReadInput has purposes.Run (λ job. folded_events (step (command_cast a job)) job 0 (start (job_cast job))) bytes job s

-- the bytes are a job with its events
abbrev pub IsChecked : (List ℕ → Bool) → List ℕ → Job → Type 0
IsChecked has bytes job = IsReadInput has purposes.Check (λ job. folded_events skipped_event job 0 tt) bytes job tt

-- the bytes are the job of a race, and its further lines were passed over
abbrev pub IsEntered : (List ℕ → Bool) → List ℕ → Job → Type 0
IsEntered has bytes job = IsReadInput has purposes.Race (λ job. folded_events skipped_event job 0 tt) bytes job tt

-- the bytes are a plain job, and its made header and its further lines are the text
abbrev pub IsCopied : (List ℕ → Bool) → List ℕ → Job → List ℕ → Type 0
IsCopied has bytes job text = IsReadInput has purposes.Make (λ job. copied 0 (written_line (made job))) bytes job text

-- what a run writes, where strategies answer a
unfoldable pub of_run : (List ℕ → Bool) → Answers → Bool → ℕ → List ℕ → List (ℕ × List ℕ) → Result Written Reason
of_run has a transcript line text ls = do
  job ← parse_header_job has purposes.Run line text
  s ← folded_events (step (command_cast a job)) job 0 (start (job_cast job)) ls
  Ok (reported transcript job (finished_state job.finish (command_cast a job) s).book)

-- what a race writes whose book is b
unfoldable pub of_race : (List ℕ → Bool) → Histories → Bool → ℕ → List ℕ → List (ℕ × List ℕ) → Result Written Reason
of_race has b transcript line text ls = do
  job ← parse_header_job has purposes.Race line text
  u ← folded_events skipped_event job 0 tt ls
  Ok (reported transcript job b)

-- what a check writes
unfoldable pub of_check : (List ℕ → Bool) → ℕ → List ℕ → List (ℕ × List ℕ) → Result Written Reason
of_check has line text ls = do
  job ← parse_header_job has purposes.Check line text
  u ← folded_events skipped_event job 0 tt ls
  Ok (written_check job)

-- what a command that makes a job writes
unfoldable pub of_make : (List ℕ → Bool) → ℕ → List ℕ → List (ℕ × List ℕ) → Result Written Reason
of_make has line text ls = do
  job ← parse_header_job has purposes.Make line text
  t ← copied 0 (written_line (made job)) ls
  Ok (plain_text t)

-- what is written for the header and the further lines of a job
abbrev pub of_header : (List ℕ → Bool) → Chance → JobCommand → ℕ → List ℕ → List (ℕ × List ℕ) → Result Written Reason
of_header has chance (Run transcript) line text ls = of_run has chance.answers transcript line text ls
of_header has chance (Race ticks transcript) line text ls = of_race has chance.book transcript line text ls
of_header has chance Check line text ls = of_check has line text ls
of_header has chance Make line text ls = of_make has line text ls

-- what is written for the lines of a job
abbrev pub of_lines : (List ℕ → Bool) → Chance → JobCommand → List (ℕ × List ℕ) → Result Written Reason
of_lines has chance command [] = Err (NotJson 1)
of_lines has chance command (l ∷ ls) = of_header has chance command l.0 l.1 ls
