use Rattle.std.proofs.Common.{◌≡◌, IfOk, ap, ◌∙◌, subst}
use Rattle.ledger_core.specs.Book.{Histories}
use Rattle.history_index.specs.Indexes.{all_entries}
use Rattle.swap_rules.specs.Findings.{findings}
use Rattle.outcome_rules.specs.Report.{is_conforming_party}
use Rattle.outcome_rules.proofs.listing.findings.Goals as goal

pub returns-clause-exact : goal.returns-clause-exact
returns-clause-exact c =
    subst (λ (b : Histories). IfOk c.findings_indexed.result (λ l. l ≡ findings c.args.deal.now (is_conforming_party c.args.conforming.now) b))
    (ap all_entries c.deref.ensures.value ∙ c.in_ok-known.ensures.entries) c.findings_indexed.ensures.exact

pub returns-clause-safe : goal.returns-clause-safe
returns-clause-safe c = rw (ap all_entries c.deref.ensures.value ∙ c.in_ok-known.ensures.entries) at c.findings_indexed.ensures.safe

pub returns-clause-gains : goal.returns-clause-gains
returns-clause-gains c = rw (ap all_entries c.deref.ensures.value ∙ c.in_ok-known.ensures.entries) at c.findings_indexed.ensures.gains

pub returns-clause-refunds : goal.returns-clause-refunds
returns-clause-refunds c = rw (ap all_entries c.deref.ensures.value ∙ c.in_ok-known.ensures.entries) at c.findings_indexed.ensures.refunds

pub returns-clause-transfer : goal.returns-clause-transfer
returns-clause-transfer c = rw (ap all_entries c.deref.ensures.value ∙ c.in_ok-known.ensures.entries) at c.findings_indexed.ensures.transfer

pub returns-clause-nothing_found : goal.returns-clause-nothing_found
returns-clause-nothing_found c = rw (ap all_entries c.deref.ensures.value ∙ c.in_ok-known.ensures.entries) at c.findings_indexed.ensures.nothing_found

pub returns-clause-paid : goal.returns-clause-paid
returns-clause-paid c = rw (ap all_entries c.deref.ensures.value ∙ c.in_ok-known.ensures.entries) at c.findings_indexed.ensures.paid

pub returns-clause-units : goal.returns-clause-units
returns-clause-units c = rw (ap all_entries c.deref.ensures.value ∙ c.in_ok-known.ensures.entries) at c.findings_indexed.ensures.units
