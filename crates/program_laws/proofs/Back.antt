-- The transcript of a job and a legal book gives both.
use Rattle.std.proofs.Common.{◌≡◌, Ok, Result, refl, ap}
use Rattle.swap_job.specs.declared.job.Job.{Job}
use Rattle.swap_job.specs.declared.job.Purpose.TheVariants.{Audit}
use Rattle.command_input.specs.Refusal.{named_result}
use Rattle.command_input.specs.declared.reason.Reason.{Reason}
use Rattle.offer_header.specs.Names.{no_strategy}
use Rattle.offer_text.specs.HeaderLine.{header_line}
use Rattle.swap_offer.specs.Job.{header_names}
use Rattle.read_back.specs.Headers.{IsShowable, audited_job}
use Rattle.read_back.proofs.HeaderOneLine.{header_is_one_line}
use Rattle.read_back.proofs.HeaderShown.{header_reads}
use Rattle.read_back.proofs.HeaderWhole.{header_is_read_back}
use Rattle.transcript_book.specs.Lines.{transcript, transcript_lines, IsWholeTranscript}
use Rattle.transcript_book.proofs.Legal.{legal_is_stated}
use Rattle.audit_command.specs.Header.{header_read, parse_deal_header}
use Rattle.audit_command.specs.Laws.{header_job, job_or_none}
use Rattle.audit_command.proofs.Back.{whole_text_is_read}
use Rattle.program_laws.specs.Transcripts.{RoundTrip}
use Rattle.program_laws.proofs.Typed.{legal_is_typed}

header_gives : (job : Job) → IsShowable job → header_read (header_line job) ≡ Ok (audited_job job)
unfolding parse_deal_header
header_gives job k =
    let line = header_reads job k in
    ap (λ (r : Result Job Reason). named_result (header_names no_strategy Audit 2 (header_line job)) r)
    (header_is_read_back no_strategy job 2 (header_line job) k line.0 line.1)

pub round_trip : RoundTrip
unfolding transcript
round_trip job b k =
    let whole : IsWholeTranscript (header_job header_read) (transcript_lines (header_line job) b) (audited_job job) b = record {
      header = header_line job;
      gives = ap job_or_none (header_gives job k.showable);
      lines = refl;
      stated = legal_is_stated job.deal b k.legal (legal_is_typed job.deal b k.showable.sized k.legal k.digests);
    } in
    whole_text_is_read header_read (transcript_lines (header_line job) b) (audited_job job) b whole k.showable.sized (header_is_one_line job k.showable) k.short
