-- What an audit promises of the book whose report it wrote.
use Rattle.std.specs.Prelude.{◌≡◌, ℕ, List, [], Ok}
use Rattle.ledger_core.specs.Book.{IsLegalBook}
use Rattle.swap_rules.specs.Accepted.{IsAccepted}
use Rattle.swap_rules.specs.Laws.{FindsNothing, IsTransferred}
use Rattle.outcome_rules.specs.declared.report.Report.{Report}
use Rattle.outcome_rules.specs.Report.{is_conforming_party, build_report}
use Rattle.outcome_rules.specs.Promises.{AllAreConforming, AllArePaid, AllAreWhole, AllHaveRefunds, NobodyGains, NoneIsUnderwater, NoneLosesUnits, shown_outcome, UnpublishedLoseNothing, WatchfulAreWhole}
use Rattle.swap_auditor.specs.Audit.{AreUnitsConserved}
use Rattle.audit_command.specs.Header.{header_read, IsTranscriptJob}
use Rattle.audit_command.specs.Laws.{IsWholeText}
use Rattle.audit_command.specs.TranscriptReading.{Story, transcript_read}
use Rattle.audit_command.specs.Output.{story_output}
use Rattle.command_input.specs.Written.{Written}

-- the report of a job's book
abbrev pub story_report : Story → Report
story_report t = build_report t.job.deal t.job.conforming t.book

-- What an audit that reports r promises of a job and its book.
pub record IsSoundAudit (t : Story) (r : Report) : Type 0 where
  pub report : r ≡ story_report t
  pub accepted : IsAccepted t.job.deal
  -- every reply is the table's, and at every moment each unit is in one place
  pub legal : IsLegalBook t.job.deal t.book
  pub units : AreUnitsConserved t.job.deal t.book
  -- a conforming party that no finding endangers doesn't end underwater, and one that none strands
  -- has its refunds
  pub safe : NoneIsUnderwater t.job.deal t.job.conforming (shown_outcome r) r.findings
  pub refunds : AllHaveRefunds t.job.deal t.job.conforming t.book r.findings
  -- nobody gains by cheating, alone or together, unless a conforming party is endangered or forged
  pub gains : NobodyGains t.job.deal t.job.conforming t.book (shown_outcome r) r.findings
  -- in units: one that no finding endangers is paid in full as soon as it lost an arc, and one that
  -- none strands either lost nothing, or is paid in full
  pub paid : AllArePaid t.job.deal t.job.conforming t.book r.findings
  pub lossless : NoneLosesUnits t.job.deal t.job.conforming t.book r.findings
  -- whatever is found: a conducted and watchful party is safe and has its units, and a party that
  -- published and transferred nothing has lost nothing
  pub watchful : WatchfulAreWhole t.job.deal t.book
  pub unpublished : UnpublishedLoseNothing t.job.deal t.book
  -- where all conform and nothing is found, all is transferred, and the report shows each party
  -- with the whole deal
  pub transfer : AllAreConforming t.job.deal t.job.conforming → r.findings ≡ [] → IsTransferred t.job.deal t.book accepted
  pub whole : AllAreConforming t.job.deal t.job.conforming → r.findings ≡ [] → AllAreWhole t.job.deal r
  -- where nothing is found, every ledger has ended, and every conforming party kept what the laws
  -- ask for
  pub nothing : r.findings ≡ [] → FindsNothing t.job.deal (is_conforming_party t.job.conforming) t.book

-- The input is a whole transcript of a job and a book, and what was written is their report.
pub record IsAudit (input : List ℕ) (output : Written) : Type 0 where
  pub story : Story
  pub read : transcript_read header_read input ≡ Ok story
  pub whole : IsWholeText header_read input story
  pub job : IsTranscriptJob story.job
  pub report : Report
  pub shown : output ≡ story_output story report
  pub sound : IsSoundAudit story report
