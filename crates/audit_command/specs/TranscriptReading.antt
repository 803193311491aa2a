-- What the bytes of a transcript give: its job and its book, or why they give none.
use Rattle.std.specs.Prelude.{◌≡◌, ◌&&◌, ℕ, nat_lt, List, [], ◌∷◌, length, Result, Ok, Err, if◌then◌else◌}
use Rattle.swap_base.specs.declared.fault.Fault.{Fault}
use Rattle.swap_base.specs.declared.fault.Fault.TheVariants.{Refused, NoMemory}
use Rattle.ledger_core.specs.Book.{Histories}
use Rattle.ledger_core.specs.declared.entry.Book.{Book}
use Rattle.swap_job.specs.declared.job.Job.{Job}
use Rattle.command_input.specs.declared.refusal.Refusal.{Refusal}
use Rattle.transcript_book.specs.Between.{separated_parts}
use Rattle.transcript_book.specs.Stages.{BookSoFar, is_finished}
use Rattle.command_input.specs.Input.{limit}
use Rattle.audit_command.specs.declared.reason.TranscriptReason.{TranscriptReason}
use Rattle.audit_command.specs.declared.reason.TranscriptReason.TheVariants.{BadLine, TooLong, CutShort}
use Rattle.audit_command.specs.declared.stage.Stage.{Stage}
use Rattle.audit_command.specs.declared.stage.Stage.TheVariants.{Ledgers, Bad}
use Rattle.audit_command.specs.Stages.{Progress, headed_stage, next_line_number, more_bytes, no_lines, with_line}

-- what a job and its book are
pub record Story : Type 0 where
  pub job : Job
  pub book : Histories

-- what is answered after a line
abbrev pub so_far : Stage → Result (Unit {0}) TranscriptReason
so_far (Bad reason) = Err reason
so_far _ = Ok tt

-- no more bytes than an input may have
abbrev pub unless_long : {A : Type 0} → ℕ → Result A TranscriptReason → Result A TranscriptReason
unless_long bytes answer = if nat_lt limit bytes then Err TooLong else answer

abbrev pub story_so_far : BookSoFar → Story
story_so_far s = record { job = s.job; book = s.book }

-- the job and the book that were read, or CutShort where the last line of the ledgers wasn't
abbrev pub told : BookSoFar → Result Story TranscriptReason
told s = if is_finished s.place then Ok (story_so_far s) else Err CutShort

-- no bytes stand after the last line
abbrev pub story_without_rest : (lines bytes : ℕ) → BookSoFar → List ℕ → Result Story TranscriptReason
story_without_rest lines bytes s rest = if is_finished s.place && nat_lt 0 (length rest) then Err (BadLine (next_line_number lines)) else unless_long bytes (told s)

abbrev pub stage_answer : Stage → Progress → List ℕ → Result Story TranscriptReason
stage_answer (Bad reason) p rest = Err reason
stage_answer (Ledgers s) p rest = story_without_rest p.lines (more_bytes p.bytes (length rest)) s rest
stage_answer _ p rest = unless_long (more_bytes p.bytes (length rest)) (Err CutShort)

-- what is answered at the end, after bytes that no line feed ended
abbrev pub story_at_end : Progress → List ℕ → Result Story TranscriptReason
story_at_end p rest = stage_answer p.stage p rest

-- the lines are read, and what stands after the last line feed ends them
abbrev pub parts_read : (List ℕ → Result Job Refusal) → Progress → List (List ℕ) → Result Story TranscriptReason
parts_read header p [] = story_at_end p []
parts_read header p (rest ∷ []) = story_at_end p rest
parts_read header p (line ∷ next ∷ parts) = parts_read header (with_line header p line) (next ∷ parts)

-- what bytes give, where header says what a header line gives
unfoldable pub transcript_read : (List ℕ → Result Job Refusal) → List ℕ → Result Story TranscriptReason
transcript_read header bytes = parts_read header no_lines (separated_parts 10 bytes)

-- the story of a job and its book
abbrev pub job_story : Job × Book → Story
job_story p = record { job = p.0; book = p.1.histories }

-- What stands next after a header line, or the reason against it.
abbrev pub Heads : Result Stage (Fault TranscriptReason) → Result Job Refusal → Type 0
Heads (Ok stage) read = (headed_stage read ≡ stage) × (so_far stage ≡ Ok tt)
Heads (Err NoMemory) read = Unit {0}
Heads (Err (Refused reason)) read = headed_stage read ≡ Bad reason

-- A line makes a stage so: one that isn't bad goes on, and any other answer leaves it as it was.
abbrev pub Turns : {T : Type 0} → Result T (Fault TranscriptReason) → Stage → Stage → Stage → Type 0
Turns (Ok x) old new read = (new ≡ read) × (so_far read ≡ Ok tt)
Turns (Err NoMemory) old new read = new ≡ old
Turns (Err (Refused reason)) old new read = (new ≡ old) × (read ≡ Bad reason)

-- A call that reads a line answers so. After want of memory all is as it was.
abbrev pub ReadsTranscriptLine : {T : Type 0} → Result T (Fault TranscriptReason) → Progress → Progress → Progress → Type 0
ReadsTranscriptLine (Ok x) old new read = (new ≡ read) × (so_far read.stage ≡ Ok tt)
ReadsTranscriptLine (Err NoMemory) old new read = new ≡ old
ReadsTranscriptLine (Err (Refused reason)) old new read = (new ≡ read) × (so_far read.stage ≡ Err reason)
