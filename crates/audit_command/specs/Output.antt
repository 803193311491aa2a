-- What an audit writes for an input: the report of the job and the book that the input's lines
-- state.
use Rattle.std.specs.Prelude.{◌==◌, ℕ, not, List, [], length, Result, Ok, Err}
use Rattle.swap_base.specs.Fault.{◌>>=◌}
use Rattle.command_input.specs.declared.reason.Reason.{Reason}
use Rattle.command_input.specs.declared.reason.Reason.TheVariants as reasons
use Rattle.command_input.specs.declared.refusal.Refusal.{Refusal}
use Rattle.command_input.specs.Refusal.{refusal}
use Rattle.ledger_core.specs.Book.{Histories}
use Rattle.swap_job.specs.declared.job.Job.{Job}
use Rattle.outcome_rules.specs.declared.report.Report.{Report}
use Rattle.run_texts.specs.Report.{report}
use Rattle.swap_auditor.specs.declared.replay.BadReply.{BadReply}
use Rattle.swap_auditor.specs.Audit.{audited}
use Rattle.audit_command.specs.declared.reason.TranscriptReason.{TranscriptReason}
use Rattle.audit_command.specs.declared.reason.TranscriptReason.TheVariants.{BadLine, TooLong, CutShort, Header}
use Rattle.audit_command.specs.Header.{header_read}
use Rattle.audit_command.specs.TranscriptReading.{Story, transcript_read}
use Rattle.command_input.specs.Written.{Written}

abbrev pub story : Job → Histories → Story
story job b = record { job = job; book = b }

-- a refusal that speaks of no party
abbrev pub unnamed_refusal : Reason → Refusal
unnamed_refusal reason = refusal [] reason

-- A refusal of a text. Of an input within its limit none is that it is too long.
abbrev pub to_refusal : TranscriptReason → Refusal
to_refusal (BadLine line) = unnamed_refusal (reasons.BadLine line)
to_refusal TooLong = unnamed_refusal reasons.CutShort
to_refusal CutShort = unnamed_refusal reasons.CutShort
to_refusal (Header reason) = reason

abbrev pub by_text : Result Story TranscriptReason → Result Story Refusal
by_text (Ok t) = Ok t
by_text (Err reason) = Err (to_refusal reason)

-- the job and the book that an input's lines state, or the first reason against them
unfoldable pub input_story : List ℕ → Result Story Refusal
input_story input = by_text (transcript_read header_read input)

abbrev pub refused_reply : BadReply → Refusal
refused_reply b = unnamed_refusal (reasons.BadReply b.arc b.entry b.stated b.replayed)

abbrev pub by_replies : Result Report BadReply → Result Report Refusal
by_replies (Ok r) = Ok r
by_replies (Err b) = Err (refused_reply b)

-- the report of a book if the replay gives all its stated replies, or the first stated reply that
-- it doesn't give
unfoldable pub judged : Story → Result Report Refusal
judged t = by_replies (audited t.job.deal t.job.conforming t.book)

abbrev pub story_output : Story → Report → Written
story_output t r = record { text = report t.job t.book r; found = not (length r.findings == 0) }

-- what is written of a job and its book
unfoldable pub written_story : Story → Result Written Refusal
written_story t = judged t >>= λ r. Ok (story_output t r)

-- what an audit writes for an input, or the first reason why it is refused
unfoldable pub audit_output : List ℕ → Result Written Refusal
audit_output input = input_story input >>= written_story
