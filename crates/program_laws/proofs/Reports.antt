-- An audit of what was written of a job and its book writes their report.
use Rattle.std.proofs.Common.{◌≡◌, ℕ, List, Ok, Result, refl, ap, ◌∙◌}
use Rattle.swap_base.specs.Fault.{◌>>=◌}
use Rattle.ledger_core.specs.Book.{Histories}
use Rattle.swap_job.specs.declared.job.Job.{Job}
use Rattle.outcome_rules.specs.declared.report.Report.{Report}
use Rattle.outcome_rules.specs.Report.{build_report}
use Rattle.command_input.specs.declared.refusal.Refusal.{Refusal}
use Rattle.swap_auditor.specs.declared.replay.BadReply.{BadReply}
use Rattle.swap_auditor.specs.Audit.{audited}
use Rattle.run_texts.specs.Report.{report}
use Rattle.transcript_book.specs.Lines.{transcript}
use Rattle.audit_command.specs.TranscriptReading.{Story}
use Rattle.audit_command.specs.Output.{audit_output, by_replies, by_text, judged, story, input_story, written_story, story_output}
use Rattle.command_input.specs.Written.{Written}
use Rattle.read_back.specs.Headers.{audited_job}
use Rattle.program_laws.specs.Transcripts.{HasTranscript, SameReport, reported_book}
use Rattle.program_laws.proofs.Back.{round_trip}
use Rattle.program_laws.proofs.Replays.{book_stands}

story_is : (job : Job) (b : Histories) → HasTranscript job b → input_story (transcript job b) ≡ Ok (story (audited_job job) b)
unfolding input_story
story_is job b k = ap by_text (round_trip job b k)

report_is : (job : Job) (b : Histories) → HasTranscript job b → audited job.deal job.conforming b ≡ Ok (build_report job.deal job.conforming b)
report_is job b k =
    ap (λ (r : Result (Unit {0}) BadReply). r >>= λ _. Ok (build_report job.deal job.conforming b)) (book_stands job.deal b k.legal)

told_is : (job : Job) (b : Histories) → HasTranscript job b
    → written_story (story (audited_job job) b) ≡ Ok (story_output (story (audited_job job) b) (build_report job.deal job.conforming b))
unfolding written_story judged
told_is job b k =
    ap (λ (r : Result Report BadReply). by_replies r >>= λ x. Ok (story_output (story (audited_job job) b) x)) (report_is job b k)

-- the report shows nothing that the header line doesn't
same_text : (job : Job) (b : Histories) (r : Report) → report (audited_job job) b r ≡ report job b r
unfolding report
same_text job b r = refl

pub same_report : SameReport
unfolding audit_output
same_report job b k =
    ap (λ (s : Result Story Refusal). s >>= written_story) (story_is job b k)
    ∙ told_is job b k
    ∙ ap (λ (t : List ℕ). let w : Written = record { text = t; found = (reported_book job b).found } in Ok w)
    (same_text job b (build_report job.deal job.conforming b))
