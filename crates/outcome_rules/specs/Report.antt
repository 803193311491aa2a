-- The report of a book.
use Rattle.std.specs.Prelude.{ℕ, Bool, false, nat_lt, List, map, slice_index_or}
use Rattle.std.specs.List.{list_all, range_with_len}
use Rattle.time_bounds.specs.Times as times
use Rattle.swap_digraph.specs.declared.deal.Deal.{Deal}
use Rattle.ledger_core.specs.History.{height}
use Rattle.ledger_core.specs.Book.{Histories}
use Rattle.swap_rules.specs.declared.outcome.Outcome.{Outcome}
use Rattle.swap_rules.specs.Outcome.{outcome}
use Rattle.swap_rules.specs.Findings.{findings}
use Rattle.outcome_rules.specs.declared.report.Report.{Report}

-- each ledger's height is above the horizon
abbrev pub has_ended : Deal → Histories → Bool
has_ended d b = list_all (λ h. nat_lt (times.horizon d.start d.delta d.bound) (height h)) b

-- whether party p conforms
abbrev pub is_conforming_party : List Bool → ℕ → Bool
is_conforming_party conforming p = slice_index_or conforming p false

-- how each party ended
abbrev pub deal_outcomes : Deal → Histories → List Outcome
deal_outcomes d b = map (outcome d b) (range_with_len 0 d.graph.n)

-- the report of a book
unfoldable pub build_report : Deal → List Bool → Histories → Report
build_report d conforming b = record { ended = has_ended d b; outcomes = deal_outcomes d b; findings = findings d (is_conforming_party conforming) b }
