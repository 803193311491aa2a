-- What is promised of a judgement.
use Rattle.std.specs.Prelude.{◌≡◌, ℕ, List, Ok}
use Rattle.ledger_core.specs.Book.{Histories}
use Rattle.swap_job.specs.declared.job.Job.{Job}
use Rattle.outcome_rules.specs.declared.report.Report.{Report}
use Rattle.audit_command.specs.Output.{story}
use Rattle.audit_command.specs.Promised.{IsSoundAudit}
use Rattle.transcript_book.specs.Lines.{IsStated, lines_from_arc}
use Rattle.command_input.specs.Written.{Written}
use Rattle.party_rows.specs.Lines.{ended_lines}
use Rattle.party_terms.specs.Terms.{AgreedState, parse_agreed}
use Rattle.party_judge.specs.declared.form.Form.{Form}
use Rattle.party_judge.specs.Agreements.{agreements}
use Rattle.party_judge.specs.Harmless.{AreWeighed}
use Rattle.party_judge.specs.Laws.{BindsAgreement}
use Rattle.party_judge.specs.Output.{judgement}

-- It is the judgement of that job's book in that form, with all that an audit promises of it.
pub record IsBookJudgement (form : Form) (digest : List ℕ) (job : Job) (book : Histories) (output : Written) : Type 0 where
  pub report : Report
  pub shown : output ≡ judgement form job digest book report
  pub sound : IsSoundAudit (story job book) report
  -- each late publish that is told is harmless exactly where it could only hurt
  pub weighed : AreWeighed job.deal book report

-- Behind what was agreed on stand lines of parties that all tell its digest, and then the lines of a
-- book, which is judged.
pub record IsAgreedJudgement (form : Form) (agreed : AgreedState) (behind : List (List ℕ)) (output : Written) : Type 0 where
  -- the lines of the ledgers, and the number of the first
  pub first : ℕ
  pub rest : List (List ℕ)
  pub told : agreements agreed.job.names agreed.digest agreed.next behind ≡ Ok (first, rest)
  pub book : Histories
  pub whole : rest ≡ lines_from_arc 0 book
  pub stated : IsStated agreed.job.deal book
  pub judged : IsBookJudgement form agreed.digest agreed.job book output

-- The lines begin with what wallets agreed on.
pub record IsLinesJudgement (form : Form) (lines : List (List ℕ)) (output : Written) : Type 0 where
  pub agreed : AgreedState
  pub behind : List (List ℕ)
  pub read : parse_agreed 1 lines ≡ Ok (agreed, behind)
  pub judged : IsAgreedJudgement form agreed behind output

-- The text has lines that are judged: what wallets agreed on, the digest that each party told, which
-- is that of what stands there, and the lines of a book. What was written is the judgement of this
-- book, with all that an audit promises. The digest binds what stands there.
pub record IsJudgement (form : Form) (text : List ℕ) (output : Written) : Type 0 where
  pub lines : List (List ℕ)
  pub ended : ended_lines text ≡ Ok lines
  pub judged : IsLinesJudgement form lines output
  pub binds : BindsAgreement judged.agreed
