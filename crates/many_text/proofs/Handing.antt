-- A fault that is handed on, and the parts of the whole text.
use Rattle.std.proofs.Common.{◌≡◌, ℕ, List, [], ◌++◌, Result, Err, refl, sym, ap, ap₂, append-nil, ◌∙◌}
use Rattle.swap_io.specs.declared.fault.TextFault.{TextFault}
use Rattle.swap_base.specs.Text.{lines}
use Rattle.ledger_core.specs.Book.{Histories}
use Rattle.swap_job.specs.declared.job.Job.{Job}
use Rattle.outcome_rules.specs.declared.report.Report.{Report}
use Rattle.run_texts.specs.Report.{count_line, report}
use Rattle.swap_many.specs.Kept.{Kept}
use Rattle.many_text.specs.ManyText.{kept_chain_text, finding_count, kept_report, many_text, swap_book, swap_line, swap_text, kept_swap_text}

-- a fault that is handed on
pub as_other : {A B : Type 0} (result : Result A TextFault) (other : Result B TextFault) (e x f : TextFault) → result ≡ Err x → x ≡ e → result ≡ Err f
    → other ≡ Err e → other ≡ Err f
as_other result other e x f was same is o = let q : x ≡ f = cc (sym was ∙ is) in o ∙ ap Err (sym same ∙ q)

-- ---- parts of the text

pub of_swap : (z : Kept) (s : ℕ) (job : Job) (b : Histories) (r : Report) → b ≡ swap_book z s → r ≡ kept_report z s job
    → swap_line s ++ report job b r ≡ kept_swap_text z s job
unfolding swap_text
of_swap z s job b r book told =
    ap₂ (λ (x : Histories) (y : Report). swap_line s ++ report job x y) book told
    ∙ ap (λ (t : List ℕ). swap_line s ++ t) (sym (append-nil (report job (swap_book z s) (kept_report z s job))))

pub of_many : (jobs : List Job) (names : List (List (List ℕ))) (z : Kept)
    → lines (kept_swap_text z) 0 jobs ++ (lines (kept_chain_text z) 0 names ++ (count_line (finding_count z 0 jobs) ++ [])) ≡ many_text jobs names z
unfolding many_text
of_many jobs names z = refl
