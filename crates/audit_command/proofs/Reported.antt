-- The report of an audit is that of the book.
use Rattle.std.proofs.Common.{◌≡◌, ◌≤◌, Bool, List, length, Result, Ok, Err, sym, subst, arith}
use Rattle.std.proofs.lemmas.List.FromFn.{length-map-range_with_len}
use Rattle.swap_base.specs.Fault.{◌>>=◌}
use Rattle.swap_digraph.specs.declared.deal.Deal.{Deal}
use Rattle.swap_digraph.specs.declared.deal.Version.{Version}
use Rattle.swap_digraph.specs.declared.deal.Version.TheVariants.{One, Two}
use Rattle.swap_digraph.specs.Deal.{most_parties}
use Rattle.ledger_core.specs.Book.{Histories}
use Rattle.swap_rules.specs.Outcome.{outcome}
use Rattle.outcome_rules.specs.declared.report.Report.{Report}
use Rattle.outcome_rules.specs.Report.{build_report}
use Rattle.swap_auditor.specs.declared.replay.BadReply.{BadReply}
use Rattle.swap_auditor.specs.Audit.{audited, replay_histories}

pub report_is : (d : Deal) (conforming : List Bool) (b : Histories) (r : Report) → audited d conforming b ≡ Ok r → r ≡ build_report d conforming b
report_is d conforming b r e = by (replay_histories d 0 b) e
  where
    by : (x : Result (Unit {0}) BadReply) → (x >>= λ u. Ok (build_report d conforming b)) ≡ Ok r → r ≡ build_report d conforming b
    by (Ok u) k = cc
    by (Err bad) k = absurd (cc k)

most : (v : Version) → most_parties v ≤ 32
most One = omega arith
most Two = omega arith

pub few_outcomes : (d : Deal) (conforming : List Bool) (b : Histories) → d.graph.n ≤ most_parties d.version
    → length (build_report d conforming b).outcomes ≤ 256
unfolding build_report
few_outcomes d conforming b le = let m = most d.version in rw (length-map-range_with_len (outcome d b) 0 d.graph.n) (omega (arith, le, m))

-- a report has few outcomes
pub few_told : (d : Deal) (conforming : List Bool) (b : Histories) (r : Report) → r ≡ build_report d conforming b → d.graph.n ≤ most_parties d.version
    → length r.outcomes ≤ 256
few_told d conforming b r is le = subst (λ (x : Report). length x.outcomes ≤ 256) (sym is) (few_outcomes d conforming b le)
