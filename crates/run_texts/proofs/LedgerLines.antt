-- The parts of a ledger's lines and of a report.
use Rattle.std.proofs.Common.{◌≡◌, ℕ, List, [], ◌++◌, length, refl, append_assoc, append-nil}
use Rattle.swap_base.specs.Text.{lines}
use Rattle.swap_digraph.specs.declared.deal.Deal.{Deal}
use Rattle.swap_digraph.specs.Deal.{amount}
use Rattle.swap_digraph.specs.Graph.{ends}
use Rattle.escrow_core.specs.Terms.{stated_terms}
use Rattle.ledger_core.specs.declared.entry.Entry.{Entry}
use Rattle.ledger_core.specs.History.{accounts, height}
use Rattle.ledger_core.specs.Book.{Histories}
use Rattle.swap_job.specs.declared.job.Job.{Job}
use Rattle.outcome_rules.specs.declared.report.Report.{Report}
use Rattle.run_texts.specs.Report.{count_line, report_entry_line, finding_line, head_lines, ledger_end, ledger_head, ledger_report_text, party_line, report}

-- The parts of a ledger's lines.
pub record LedgerParts : Type 0 where
  pub head : List ℕ
  pub entries : List ℕ
  pub last : List ℕ

abbrev pub ledger_parts : List (List ℕ) → Deal → ℕ → List Entry → LedgerParts
ledger_parts names d a h = record {
  head = ledger_head names a (ends d.graph a) (amount d a);
  entries = lines (report_entry_line names (stated_terms d a)) 0 h;
  last = ledger_end names (ends d.graph a) (height h) (accounts d a h);
}

pub of_ledger : (names : List (List ℕ)) (d : Deal) (a : ℕ) (h : List Entry)
    → (ledger_parts names d a h).head ++ ((ledger_parts names d a h).entries ++ ((ledger_parts names d a h).last ++ [])) ≡ ledger_report_text names d a h
unfolding ledger_report_text
of_ledger names d a h = refl

-- The parts of a report.
pub record ReportParts : Type 0 where
  pub head : List ℕ
  pub ledgers : List ℕ
  pub parties : List ℕ
  pub findings : List ℕ
  pub count : List ℕ

abbrev pub report_parts : Job → Histories → Report → ReportParts
report_parts job b r = record {
  head = head_lines job.deal;
  ledgers = lines (ledger_report_text job.names job.deal) 0 b;
  parties = lines (party_line job.names job.conforming r.ended) 0 r.outcomes;
  findings = lines (λ _. finding_line job.names) 0 r.findings;
  count = count_line (length r.findings);
}

pub of_report : (job : Job) (b : Histories) (r : Report)
    → (report_parts job b r).head ++ ((report_parts job b r).ledgers ++ ((report_parts job b r).parties ++ ((report_parts job b r).findings ++
    ((report_parts job b r).count ++ []))))
    ≡ report job b r
unfolding report
of_report job b r = refl

-- texts, one after another, with the first of them together

pub two : (x y rest : List ℕ) → (x ++ y) ++ rest ≡ x ++ (y ++ rest)
two x y rest = append_assoc x y rest

pub three : (x y z rest : List ℕ) → ((x ++ y) ++ z) ++ rest ≡ x ++ (y ++ (z ++ rest))
three x y z rest = simp append_assoc

pub four : (x y z u rest : List ℕ) → (((x ++ y) ++ z) ++ u) ++ rest ≡ x ++ (y ++ (z ++ (u ++ rest)))
four x y z u rest = simp append_assoc

pub all_three : (x y z : List ℕ) → (x ++ y) ++ z ≡ x ++ (y ++ (z ++ []))
all_three x y z = simp (append_assoc, append-nil)

pub all_five : (x y z u v : List ℕ) → (((x ++ y) ++ z) ++ u) ++ v ≡ x ++ (y ++ (z ++ (u ++ (v ++ []))))
all_five x y z u v = simp (append_assoc, append-nil)
