-- What was promised of a part, of the whole.
use Rattle.std.proofs.Common.{◌≡◌, ℕ, Bool, List, Result, Ok, Err, IfOk, sym, ap, ◌∙◌, subst}
use Rattle.swap_base.specs.Fault.{◌>>=◌, Fails, Gives}
use Rattle.swap_base.specs.declared.fault.Fault.{Fault}
use Rattle.swap_base.specs.declared.fault.Fault.TheVariants as faults
use Rattle.swap_base.specs.Lists.{IsElement}
use Rattle.swap_digraph.specs.declared.deal.Deal.{Deal}
use Rattle.ledger_core.specs.Book.{Histories, IsLegalBook}
use Rattle.ledger_core.specs.WellFormed.{IsWellFormed}
use Rattle.swap_job.specs.declared.job.Job.{Job}
use Rattle.command_input.specs.declared.refusal.Refusal.{Refusal}
use Rattle.command_input.specs.Written.{Written}
use Rattle.swap_rules.specs.declared.finding.Finding.TheVariants.{Late}
use Rattle.swap_rules.specs.declared.finding.Rule.TheVariants.{Publish}
use Rattle.swap_rules.specs.Accepted.{IsAccepted}
use Rattle.outcome_rules.specs.declared.report.Report.{Report}
use Rattle.outcome_rules.specs.Report.{build_report, is_conforming_party}
use Rattle.swap_auditor.specs.declared.replay.BadReply.{BadReply}
use Rattle.swap_auditor.specs.Audit.{audited}
use Rattle.audit_command.specs.Output.{by_replies, judged, refused_reply, story}
use Rattle.party_terms.specs.Inside.{IsAgreedJob}
use Rattle.party_rows.specs.Lines.{ended_lines}
use Rattle.party_terms.specs.Terms.{AgreedState, parse_agreed}
use Rattle.party_judge.specs.declared.judging.Judgement.{Judgement}
use Rattle.party_judge.specs.declared.reason.JudgeReason.{JudgeReason}
use Rattle.party_judge.specs.declared.reason.JudgeReason.TheVariants.{Refused}
use Rattle.party_judge.specs.declared.form.Form.{Form}
use Rattle.party_judge.specs.Agreements.{agreements}
use Rattle.party_judge.specs.Faults.{by_refusal, refusal_fault}
use Rattle.party_judge.specs.Inside.{written}
use Rattle.party_judge.specs.Ledgers.{ledgers_read}
use Rattle.party_judge.specs.Output.{agreed_judgement, book_judgement}
use Rattle.party_judge.specs.Promised.{IsAgreedJudgement, IsBookJudgement, IsJudgement, IsLinesJudgement}
use Rattle.party_judge.specs.Told.{told_so_far}
use Rattle.party_judge.specs.Harmless.{AreWeighed}
use Rattle.party_judge.proofs.Binding.{binds}
use Rattle.party_judge.proofs.Harmless.{harmless_is_useless}
use Rattle.party_judge.proofs.WholeBook.{is_told}

-- ---- the report of a job's book

pub judged_is : (job : Job) (b : Histories) (r : Report) → audited job.deal job.conforming b ≡ Ok r → by_refusal (judged (story job b)) ≡ Ok r
unfolding judged
judged_is job b r e = ap (λ (x : Result Report BadReply). by_refusal (by_replies x)) e

pub judged_bad : (job : Job) (b : Histories) (bad : BadReply) → audited job.deal job.conforming b ≡ Err bad
    → by_refusal (judged (story job b)) ≡ Err (Refused (refused_reply bad))
unfolding judged
judged_bad job b bad e = ap (λ (x : Result Report BadReply). by_refusal (by_replies x)) e

-- ---- a promise that is carried over

pub on_ok : {A E : Type 0} {P Q : A → Type 0} (r : Result A E) → ((x : A) → P x → Q x) → IfOk r P → IfOk r Q
on_ok (Ok x) f p = f x p
on_ok (Err e) f p = tt

-- the job and the book that lines told are judged
module _ (s : AgreedState) (behind : List (List ℕ)) (first : ℕ) (rest : List (List ℕ)) (told : agreements s.job.names s.digest s.next behind ≡ Ok (first, rest))
    (job : Job) (book : Histories) (read : told_so_far (ledgers_read s.job first rest) ≡ Ok (job, book)) where
  pub same_job : job ≡ s.job
  same_job = (is_told s.job first rest job book read).same

  pub agreed_job : IsAgreedJob s.job → IsAgreedJob job
  agreed_job k = subst IsAgreedJob (sym same_job) k

  pub formed_book : IsWellFormed job.deal book
  formed_book = subst (λ (j : Job). IsWellFormed j.deal book) (sym same_job) (is_told s.job first rest job book read).stated.formed

  of_book : (form : Form) (w : Written) → IsBookJudgement form s.digest job book w → IsAgreedJudgement form s behind w
  of_book form w k =
      let t = is_told s.job first rest job book read in record {
        first = first;
        rest = rest;
        told = told;
        book = book;
        whole = t.lines;
        stated = t.stated;
        judged = subst (λ (j : Job). IsBookJudgement form s.digest j book w) same_job k;
      }

  pub agreed_promise : {E : Type 0} (form : Form) (r : Result Judgement E) → IfOk r (λ j. IsBookJudgement form s.digest job book (written j))
      → IfOk r (λ j. IsAgreedJudgement form s behind (written j))
  agreed_promise form r k = on_ok r (λ j. of_book form (written j)) k

  pub agreed_is : (form : Form) → agreed_judgement form (s, behind) ≡ book_judgement form s.digest (job, book)
  unfolding agreed_judgement
  agreed_is form =
      ap (λ (m : Result (ℕ × List (List ℕ)) JudgeReason). m >>= λ b. by_refusal (told_so_far (ledgers_read s.job b.0 b.1)) >>= λ t. book_judgement form s.digest t) told
      ∙ ap (λ (r : Result (Job × Histories) Refusal). by_refusal r >>= λ t. book_judgement form s.digest t) read

  pub agreed_gives : (form : Form) (r : Result Judgement (Fault JudgeReason)) → Gives written r (book_judgement form s.digest (job, book))
      → Gives written r (agreed_judgement form (s, behind))
  agreed_gives form r k = subst (Gives written r) (sym (agreed_is form)) k

-- the ledgers aren't read
module _ (s : AgreedState) (behind : List (List ℕ)) (first : ℕ) (rest : List (List ℕ))
    (told : agreements s.job.names s.digest s.next behind ≡ Ok (first, rest)) where
  pub agreed_fails : (form : Form) (fault : Fault Refusal) → Fails fault (told_so_far (ledgers_read s.job first rest))
      → Fails (refusal_fault fault) (agreed_judgement form (s, behind))
  unfolding agreed_judgement
  agreed_fails form faults.NoMemory f = tt
  agreed_fails form (faults.Refused reason) f =
      ap (λ (m : Result (ℕ × List (List ℕ)) JudgeReason). m >>= λ b. by_refusal (told_so_far (ledgers_read s.job b.0 b.1)) >>= λ t. book_judgement form s.digest t) told
      ∙ ap (λ (r : Result (Job × Histories) Refusal). by_refusal r >>= λ t. book_judgement form s.digest t) f

-- what was agreed on is judged
pub lines_promise : {E : Type 0} (form : Form) (ls : List (List ℕ)) (s : AgreedState) (behind : List (List ℕ)) → parse_agreed 1 ls ≡ Ok (s, behind)
    → (r : Result Judgement E) → IfOk r (λ j. IsAgreedJudgement form s behind (written j)) → IfOk r (λ j. IsLinesJudgement form ls (written j))
lines_promise form ls s behind read r k = on_ok r (λ j p. record { agreed = s; behind = behind; read = read; judged = p }) k

-- the lines of a text are judged
pub text_promise : {E : Type 0} (form : Form) (text : List ℕ) (ls : List (List ℕ)) → ended_lines text ≡ Ok ls → (r : Result Judgement E)
    → IfOk r (λ j. IsLinesJudgement form ls (written j)) → IfOk r (λ j. IsJudgement form text (written j))
text_promise form text ls ended r k =
    on_ok r (λ j p. record { lines = ls; ended = ended; judged = p; binds = binds text ls p.behind p.agreed ended p.read }) k

-- each late publish of a report that is the book's is weighed
pub report_weighed : (d : Deal) (conforming : List Bool) (b : Histories) (r : Report) → r ≡ build_report d conforming b → IsAccepted d → IsLegalBook d b
    → AreWeighed d b r
unfolding build_report
report_weighed d conforming b r is accepted legal v a last i =
    harmless_is_useless d (is_conforming_party conforming) b v a last accepted legal
    (subst (λ (x : Report). IsElement (Late v Publish a last) x.findings) is i)
