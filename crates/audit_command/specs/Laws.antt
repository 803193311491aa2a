-- What is read of a transcript, and what is read back of a whole one.
use Rattle.std.specs.Prelude.{◌≡◌, ◌≤◌, ◌==◌, not, ℕ, true, List, length, Option, Some, None, Result, Ok, Err}
use Rattle.std.specs.List.{list_all}
use Rattle.ledger_core.specs.Book.{Histories}
use Rattle.swap_digraph.specs.Deal.{IsWellSized}
use Rattle.swap_job.specs.declared.job.Job.{Job}
use Rattle.command_input.specs.declared.refusal.Refusal.{Refusal}
use Rattle.transcript_book.specs.Between.{fed_lines}
use Rattle.transcript_book.specs.Lines.{IsWholeTranscript}
use Rattle.command_input.specs.Input.{limit}
use Rattle.audit_command.specs.TranscriptReading.{Story, transcript_read}

abbrev pub job_or_none : Result Job Refusal → Option Job
job_or_none (Ok job) = Some job
job_or_none (Err refusal) = None

-- the job that a header line gives, if any
abbrev pub header_job : (List ℕ → Result Job Refusal) → List ℕ → Option Job
header_job header line = job_or_none (header line)

-- The lines of the bytes are a whole transcript.
pub record IsWholeText (header : List ℕ → Result Job Refusal) (bytes : List ℕ) (t : Story) : Type 0 where
  pub lines : List (List ℕ)
  pub text : bytes ≡ fed_lines lines
  pub whole : IsWholeTranscript (header_job header) lines t.job t.book

-- Bytes that give a job and a book are a whole transcript of them.
abbrev pub ReadTextIsWhole : Type 0
ReadTextIsWhole = (header : List ℕ → Result Job Refusal) (bytes : List ℕ) (t : Story) → transcript_read header bytes ≡ Ok t → IsWholeText header bytes t

-- A whole transcript of no more bytes than an input may have, whose header line holds no line feed,
-- gives its job and its book.
abbrev pub WholeTextIsRead : Type 0
WholeTextIsRead =
    (header : List ℕ → Result Job Refusal) (ls : List (List ℕ)) (job : Job) (b : Histories) (whole : IsWholeTranscript (header_job header) ls job b)
    → IsWellSized job.deal
    → list_all (λ x. not (x == 10)) whole.header ≡ true → length (fed_lines ls) ≤ limit
    → transcript_read header (fed_lines ls) ≡ Ok (record { job = job; book = b })
