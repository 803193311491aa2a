use Rattle.std.proofs.Common.{rules, [], if◌then◌else◌}
use Rattle.swap_rules.specs.Findings.{party_findings}
use Rattle.outcome_rules.specs.Report.{is_conforming_party}
use Rattle.history_index.specs.Indexes.{all_entries}
use Rattle.conduct_check.proofs.KeyLoops.{flat_more}
use Rattle.outcome_rules.proofs.Promises as promises
use Rattle.outcome_rules.proofs.listing.findings_indexed.Goals as goal

pub loop-party-preserved : goal.loop-party-preserved
loop-party-preserved c =
    flat_more (λ v. if is_conforming_party c.args.conforming.now v then party_findings c.args.deal.now (all_entries c.args.known.now) v else []) []
    c.loop-party.list.items c.put_party_findings.new.out.items c.loop-party.party c.loop-party.invariant c.in_ok-put_party_findings.ensures

pub returns-clause-exact : goal.returns-clause-exact
returns-clause-exact c = search rules

pub returns-clause-safe : goal.returns-clause-safe
returns-clause-safe c =
    promises.none_is_underwater c.args.deal.now c.args.conforming.now (all_entries c.args.known.now) c.new.result c.requires.legal
    (returns-clause-exact c)

pub returns-clause-gains : goal.returns-clause-gains
returns-clause-gains c =
    promises.nobody_gains c.args.deal.now c.args.conforming.now (all_entries c.args.known.now) c.new.result c.requires.legal (returns-clause-exact c)

pub returns-clause-refunds : goal.returns-clause-refunds
returns-clause-refunds c =
    promises.all_have_refunds c.args.deal.now c.args.conforming.now (all_entries c.args.known.now) c.new.result c.requires.legal (returns-clause-exact c)

pub returns-clause-transfer : goal.returns-clause-transfer
returns-clause-transfer c =
    promises.is_transferred c.args.deal.now c.args.conforming.now (all_entries c.args.known.now) c.new.result c.requires.legal (returns-clause-exact c)

pub returns-clause-nothing_found : goal.returns-clause-nothing_found
returns-clause-nothing_found c =
    promises.finds_nothing c.args.deal.now c.args.conforming.now (all_entries c.args.known.now) c.new.result c.requires.legal (returns-clause-exact c)

pub returns-clause-paid : goal.returns-clause-paid
returns-clause-paid c =
    promises.all_are_paid c.args.deal.now c.args.conforming.now (all_entries c.args.known.now) c.new.result c.requires.legal (returns-clause-exact c)

pub returns-clause-units : goal.returns-clause-units
returns-clause-units c =
    promises.none_loses_units c.args.deal.now c.args.conforming.now (all_entries c.args.known.now) c.new.result c.requires.legal (returns-clause-exact c)
