-- What is written of a job and its book is read back, and tells an auditor just what it told the
-- writer.
use Rattle.std.specs.Prelude.{◌≡◌, ◌≤◌, ◌==◌, not, length, Ok}
use Rattle.ledger_core.specs.Book.{Histories, IsLegalBook}
use Rattle.swap_job.specs.declared.job.Job.{Job}
use Rattle.outcome_rules.specs.Report.{build_report}
use Rattle.read_back.specs.Headers.{IsShowable, audited_job}
use Rattle.run_texts.specs.Report.{report}
use Rattle.transcript_book.specs.Lines.{transcript}
use Rattle.audit_command.specs.Header.{header_read}
use Rattle.audit_command.specs.TranscriptReading.{transcript_read}
use Rattle.command_input.specs.Input.{limit}
use Rattle.audit_command.specs.Output.{audit_output}
use Rattle.command_input.specs.Written.{Written}
use Rattle.program_laws.specs.Digests.{HoldsDigests}

-- A transcript can tell of a job and its book: the job can be shown, the book is legal, its calls
-- hold digests, and the transcript isn't too long.
pub record HasTranscript (job : Job) (b : Histories) : Type 0 where
  pub showable : IsShowable job
  pub legal : IsLegalBook job.deal b
  pub digests : HoldsDigests b
  pub short : length (transcript job b) ≤ limit

-- Its transcript is read as the job as an auditor knows it, and the very book.
abbrev pub RoundTrip : Type 0
RoundTrip = (job : Job) (b : Histories) → HasTranscript job b → transcript_read header_read (transcript job b) ≡ Ok (record { job = audited_job job; book = b })

-- the report of a job's book, and whether it tells of a finding
abbrev pub reported_book : Job → Histories → Written
reported_book job b = record {
  text = report job b (build_report job.deal job.conforming b);
  found = not (length (build_report job.deal job.conforming b).findings == 0);
}

-- What an audit of a job's transcript writes is, byte for byte, the report of the job and the book
-- that were written.
abbrev pub SameReport : Type 0
SameReport = (job : Job) (b : Histories) → HasTranscript job b → audit_output (transcript job b) ≡ Ok (reported_book job b)
