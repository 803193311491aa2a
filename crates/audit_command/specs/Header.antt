-- The header line of a transcript.
use Rattle.std.specs.Prelude.{◌≡◌, ℕ, List, Result, map, None}
use Rattle.swap_job.specs.declared.job.Job.{Job}
use Rattle.swap_job.specs.declared.job.Purpose.TheVariants.{Audit}
use Rattle.swap_job.specs.declared.job.Finish.TheVariants.{Stop}
use Rattle.swap_rules.specs.Accepted.{IsAccepted}
use Rattle.offer_header.specs.Header.{simple_role}
use Rattle.offer_header.specs.Names.{no_strategy, AreNames}
use Rattle.command_input.specs.declared.refusal.Refusal.{Refusal}
use Rattle.command_input.specs.Refusal.{named_result}
use Rattle.swap_offer.specs.Wallets.{party_seed}
use Rattle.swap_offer.specs.Job.{parse_header_job, header_names, IsWholeJob}
use Rattle.audit_command.specs.declared.stage.Stage.{Stage}
use Rattle.audit_command.specs.declared.stage.Stage.TheVariants.{Ledgers}

-- the job of a header line of that number, or the first reason against it; the line states no
-- strategy
unfoldable pub parse_deal_header : ℕ → List ℕ → Result Job Refusal
parse_deal_header number line = named_result (header_names no_strategy Audit number line) (parse_header_job no_strategy Audit number line)

-- the job of a transcript's header line, which is its second line
abbrev pub header_read : List ℕ → Result Job Refusal
header_read line = parse_deal_header 2 line

-- A job as a transcript tells it: its deal is accepted, its parties are named, nobody's seed is
-- there, and nothing is done after its last entry.
pub record IsTranscriptJob (job : Job) : Type 0 where
  pub purpose : job.purpose ≡ Audit
  pub accepted : IsAccepted job.deal
  pub whole : IsWholeJob job
  pub names : AreNames job.names
  pub roles : job.roles ≡ map simple_role job.conforming
  pub seeds : (p : ℕ) → party_seed job p ≡ None
  pub finish : job.finish ≡ Stop

-- where ledgers are read, their job is one that a transcript tells about
abbrev pub IsToldStage : Stage → Type 0
IsToldStage (Ledgers s) = IsTranscriptJob s.job
IsToldStage _ = Unit {0}
