use Rattle.std.proofs.Common.{◌≡◌, [], if◌then◌else◌}
use Rattle.std.specs.List.{flat_map, range_with_len}
use Rattle.swap_rules.specs.Findings.{party_findings}
use Rattle.outcome_rules.specs.Report.{is_conforming_party}
use Rattle.history_index.specs.Indexes.{all_entries}
use Rattle.outcome_rules.proofs.listing.findings_indexed.Given as goal

abbrev pub invariant-loop-party : goal.invariant-loop-party
invariant-loop-party l =
    l.list.items ≡ flat_map (λ v. if is_conforming_party l.conforming v then party_findings l.deal (all_entries l.known) v else []) (range_with_len 0 l.party)
