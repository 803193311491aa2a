use Rattle.history_index.specs.Indexes.{all_entries}
use Rattle.outcome_rules.proofs.Promises as promises
use Rattle.outcome_rules.proofs.report.report_indexed.Goals as goal

pub returns-clause-safe : goal.returns-clause-safe
returns-clause-safe c =
    λ k. promises.none_is_shown_underwater c.args.deal.now (all_entries c.args.known.now) _ c.in_ok-deal_outcomes.ensures c.args.conforming.now _
    (c.in_ok-findings_indexed.ensures.safe k)

pub returns-clause-gains : goal.returns-clause-gains
returns-clause-gains c =
    λ k. promises.none_is_shown_to_gain c.args.deal.now (all_entries c.args.known.now) _ c.in_ok-deal_outcomes.ensures c.args.conforming.now _
    (c.in_ok-findings_indexed.ensures.gains k)

pub returns-clause-whole : goal.returns-clause-whole
returns-clause-whole c =
    λ k all none. promises.all_are_whole c.args.deal.now (all_entries c.args.known.now) _ c.in_ok-deal_outcomes.ensures k
    (c.in_ok-findings_indexed.ensures.transfer k all none)
