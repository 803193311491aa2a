use Rattle.std.proofs.Common.{◌≡◌, map}
use Rattle.std.specs.List.{range_with_len}
use Rattle.swap_rules.specs.Outcome.{outcome}
use Rattle.history_index.specs.Indexes.{all_entries}
use Rattle.outcome_rules.proofs.report.deal_outcomes.Given as goal

abbrev pub invariant-loop-party : goal.invariant-loop-party
invariant-loop-party l = l.list.items ≡ map (outcome l.deal (all_entries l.known)) (range_with_len 0 l.party)
