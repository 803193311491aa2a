use Rattle.std.proofs.Common.{◌≡◌, ◌++◌}
use Rattle.std.specs.List.{flat_map, range_with_len}
use Rattle.conduct_check.specs.Judged.{judged_book}
use Rattle.swap_rules.specs.declared.finding.Rule.TheVariants.{Publish}
use Rattle.swap_rules.specs.Findings.{arc_late_findings}
use Rattle.conduct_check.proofs.lates.put_late_publishes.Given as goal

abbrev pub invariant-loop-arc : goal.invariant-loop-arc
invariant-loop-arc l = l.out.items ≡ l.initial.out.items ++ flat_map (arc_late_findings l.judged.deal.now (judged_book l.judged) l.judged.party Publish) (range_with_len 0 l.arc)
