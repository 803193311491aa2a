-- How the reading of an input ended.
use Rattle.std.specs.Prelude.{◌≡◌, ℕ, List, Result, Ok, Err}
use Rattle.ledger_core.specs.declared.entry.Book.{Book}
use Rattle.swap_job.specs.declared.job.Job.{Job}
use Rattle.command_input.specs.declared.refusal.Refusal.{Refusal}
use Rattle.audit_command.specs.declared.reason.TranscriptReason.{TranscriptReason}
use Rattle.audit_command.specs.Header.{header_read}
use Rattle.audit_command.specs.Stages.{Progress}
use Rattle.audit_command.specs.TranscriptReading.{Story, story_at_end, job_story, transcript_read}
use Rattle.command_input.specs.declared.fault.InputFault.{InputFault}
use Rattle.command_input.specs.declared.fault.InputFault.TheVariants.{Refused, ReadFault, TooLong, NoMemory}
use Rattle.audit_command.specs.Output.{by_text, input_story}

-- what is said against the bytes of a transcript
abbrev pub IsBad : List ℕ → TranscriptReason → Type 0
IsBad bytes reason = transcript_read header_read bytes ≡ Err reason

-- what is said against the bytes of a transcript, as the audit tells it
abbrev pub IsStoryRefusal : List ℕ → Refusal → Type 0
IsStoryRefusal bytes refusal = input_story bytes ≡ Err refusal

-- the bytes give what a reader of all their lines tells, where `rest` stands after the last line
-- feed
abbrev pub IsReadByReader : Progress → List ℕ → List ℕ → Type 0
IsReadByReader p rest bytes = transcript_read header_read bytes ≡ story_at_end p rest

-- the bytes state the job and the book
abbrev pub IsStory : Story → List ℕ → Type 0
IsStory t bytes = transcript_read header_read bytes ≡ Ok t

-- what is concluded from what the reader of all lines tells
abbrev pub Concludes : Result (Job × Book) (InputFault Refusal) → Result Story TranscriptReason → Type 0
Concludes (Ok p) read = read ≡ Ok (job_story p)
Concludes (Err (Refused refusal)) read = by_text read ≡ Err refusal
Concludes (Err NoMemory) read = Unit {0}
Concludes (Err ReadFault) read = ⊥
Concludes (Err TooLong) read = ⊥
