use Rattle.std.proofs.Common.{◌≡◌, IfOk, ap, ◌∙◌, subst}
use Rattle.ledger_core.specs.Book.{Histories}
use Rattle.history_index.specs.Indexes.{all_entries}
use Rattle.outcome_rules.specs.Report.{build_report}
use Rattle.outcome_rules.proofs.report.build_report.Goals as goal

pub returns-clause-exact : goal.returns-clause-exact
returns-clause-exact c =
    subst (λ (b : Histories). IfOk c.report_indexed.result (λ r. r ≡ build_report c.args.deal.now c.args.conforming.now b))
    (ap all_entries c.deref.ensures.value ∙ c.in_ok-known.ensures.entries) c.report_indexed.ensures.exact

pub returns-clause-gains : goal.returns-clause-gains
returns-clause-gains c = rw (ap all_entries c.deref.ensures.value ∙ c.in_ok-known.ensures.entries) at c.report_indexed.ensures.gains

pub returns-clause-refunds : goal.returns-clause-refunds
returns-clause-refunds c = rw (ap all_entries c.deref.ensures.value ∙ c.in_ok-known.ensures.entries) at c.report_indexed.ensures.refunds

pub returns-clause-transfer : goal.returns-clause-transfer
returns-clause-transfer c = rw (ap all_entries c.deref.ensures.value ∙ c.in_ok-known.ensures.entries) at c.report_indexed.ensures.transfer

pub returns-clause-nothing_found : goal.returns-clause-nothing_found
returns-clause-nothing_found c = rw (ap all_entries c.deref.ensures.value ∙ c.in_ok-known.ensures.entries) at c.report_indexed.ensures.nothing_found

pub returns-clause-paid : goal.returns-clause-paid
returns-clause-paid c = rw (ap all_entries c.deref.ensures.value ∙ c.in_ok-known.ensures.entries) at c.report_indexed.ensures.paid

pub returns-clause-units : goal.returns-clause-units
returns-clause-units c = rw (ap all_entries c.deref.ensures.value ∙ c.in_ok-known.ensures.entries) at c.report_indexed.ensures.units
