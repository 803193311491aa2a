-- What is written of the job of a number, and what a status says of it.
use Rattle.std.specs.Prelude.{◌≡◌, ℕ, true, List, Option, Some, if◌then◌else◌}
use Rattle.std.specs.Io.KnownBytes.{Keeps}
use Rattle.swap_io.specs.Tape.{Tape}
use Rattle.ledger_core.specs.Book.{Histories}
use Rattle.swap_job.specs.declared.job.Job.{Job}
use Rattle.swap_rules.specs.Accepted.{IsAccepted}
use Rattle.swap_rules.specs.Outcome.{IsEnded}
use Rattle.swap_gen.specs.Drawn.{generated}
use Rattle.made_jobs.specs.Generating.{generated_book, generated_summary, generated_text, is_found}
use Rattle.command_input.specs.Written.{StatusWrites, Written}
use Rattle.swap_commands.specs.Output.{plain_text, book_report}
use Rattle.swap_commands.specs.Promised.{IsPromised}
use Rattle.swap_commands.specs.Words.{words_request}
use Rattle.program_words.specs.declared.task.Request.{Request}
use Rattle.command_input.specs.declared.status.Status.{Status}
use Rattle.command_input.specs.declared.status.Status.TheVariants.{NoMemory}

-- the job with its events
abbrev pub text_output : Request → Written
text_output r = plain_text (generated_text r.seed r.parties r.events)

-- the summary of its run
abbrev pub summary_output : Request → Written
summary_output r = record {
  text = generated_summary r.seed r.parties r.events;
  found = is_found (generated r.seed r.parties) (generated_book r.seed r.parties r.events);
}

-- what is written
abbrev pub generated_output : Request → Written
generated_output r = if r.summary then summary_output r else text_output r

-- What a summary promises. It is the summary of the book to which the number's job was run. The
-- book keeps what every run promises, and every ledger in it has ended.
pub record IsSummary (job : Job) (b : Histories) (r : Request) (output : Written) : Type 0 where
  pub shown : output ≡ summary_output r
  pub promised : IsPromised job b (book_report job b)
  pub ended : IsEnded job.deal b

-- what is promised of a request's output, where that is a summary
abbrev pub AsRequested : Request → Written → Type 0
AsRequested r output = r.summary ≡ true → IsSummary (generated r.seed r.parties) (generated_book r.seed r.parties r.events) r output

-- What a status says of a number's job, by what the sink took and how many of its calls failed.
-- After want of memory no summary was made, and nothing was written where one was asked for.
pub record IsRequestStatus (taken taken' : Option (List ℕ)) (p q : ℕ) (r : Request) (s : Status) : Type 0 where
  pub writes : StatusWrites taken taken' p q (generated_output r) s
  pub promised : ¬ (s ≡ NoMemory) → AsRequested r (generated_output r)
  pub silent : s ≡ NoMemory → r.summary ≡ true → Keeps taken taken'

-- The words ask for the job of a number, which is accepted; nothing was read, what a summary
-- promises holds, and P tells what was written.
pub record Generates (P : Written → Type 0) (words : List (List ℕ)) (left left' : Tape) : Type 0 where
  pub request : Request
  pub asks : words_request words ≡ Some request
  pub unread : left' ≡ left
  pub accepted : IsAccepted (generated request.seed request.parties).deal
  pub promised : AsRequested request (generated_output request)
  pub written : P (generated_output request)
