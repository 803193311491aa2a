-- Findings counted swap by swap, as a loop does.
use Rattle.std.proofs.Common.{◌≡◌, ℕ, ◌+◌, ◌<◌, ◌≤◌, length, get_or, drop, Bool, List, [], ◌∷◌, refl, sym, subst, arith, add-one, drop-cons}
use Rattle.std.proofs.lemmas.List.{nil_from_length, length-drop}
use Rattle.std.proofs.lemmas.List.FromFn.{length-map-range_with_len}
use Rattle.swap_digraph.specs.declared.deal.Deal.{Deal}
use Rattle.swap_digraph.specs.declared.deal.Version.{Version}
use Rattle.swap_digraph.specs.declared.deal.Version.TheVariants.{One, Two}
use Rattle.swap_digraph.specs.Deal.{most_parties}
use Rattle.ledger_core.specs.Book.{Histories}
use Rattle.swap_rules.specs.Outcome.{outcome}
use Rattle.outcome_rules.specs.declared.report.Report.{Report}
use Rattle.outcome_rules.specs.Report.{build_report}
use Rattle.swap_job.specs.declared.job.Job.{Job}
use Rattle.swap_many.specs.Kept.{Kept}
use Rattle.many_text.specs.ManyText.{finding_count, kept_report}

-- one more swap
pub counted_on : (z : Kept) (jobs : List Job) (i : ℕ) (job d : Job) (count total : ℕ) → i < length jobs → job ≡ get_or jobs i d
    → count + finding_count z i (drop i jobs) ≡ total
    → (count + length (kept_report z i job).findings) + finding_count z (i + 1) (drop (i + 1) jobs) ≡ total
counted_on z jobs i job d count total lt is so_far =
    let e : drop i jobs ≡ get_or jobs i d ∷ drop (i + 1) jobs = rw (add-one, drop-cons jobs i d) refl in
    let one : finding_count z i (drop i jobs) ≡ length (kept_report z i job).findings + finding_count z (i + 1) (drop (i + 1) jobs) = rw (e, ← is) refl in
    omega (arith, one, so_far)

-- none is left
pub counted_all : (z : Kept) (jobs : List Job) (i count total : ℕ) → length jobs ≤ i → count + finding_count z i (drop i jobs) ≡ total → count ≡ total
counted_all z jobs i count total le so_far =
    let e : drop i jobs ≡ [] = nil_from_length (drop i jobs) (omega (arith, length-drop i jobs)) in
    let none : finding_count z i (drop i jobs) ≡ 0 = rw e refl in
    omega (arith, none, so_far)

-- A report has few outcomes.

most : (v : Version) → most_parties v ≤ 32
most One = omega arith
most Two = omega arith

few_outcomes : (d : Deal) (conforming : List Bool) (b : Histories) → d.graph.n ≤ most_parties d.version → length (build_report d conforming b).outcomes ≤ 256
unfolding build_report
few_outcomes d conforming b le = let m = most d.version in rw (length-map-range_with_len (outcome d b) 0 d.graph.n) (omega (arith, le, m))

pub few_told : (d : Deal) (conforming : List Bool) (b : Histories) (r : Report) → r ≡ build_report d conforming b → d.graph.n ≤ most_parties d.version
    → length r.outcomes ≤ 256
few_told d conforming b r is le = subst (λ (x : Report). length x.outcomes ≤ 256) (sym is) (few_outcomes d conforming b le)
