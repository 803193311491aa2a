use Rattle.std.proofs.Common.{◌≡◌, ◌++◌}
use Rattle.std.specs.List.{flat_map, range_with_len}
use Rattle.outcome_rules.specs.UnfinishedArcs.{arc_unfinished}
use Rattle.history_index.specs.Indexes.{all_entries}
use Rattle.outcome_rules.proofs.listing.put_unfinished.Given as goal

abbrev pub invariant-loop-arc : goal.invariant-loop-arc
invariant-loop-arc l = l.out.items ≡ l.initial.out.items ++ flat_map (arc_unfinished l.horizon (all_entries l.known)) (range_with_len 0 l.arc)
