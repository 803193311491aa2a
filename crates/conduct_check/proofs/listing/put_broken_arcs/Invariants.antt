use Rattle.std.proofs.Common.{◌≡◌, ◌++◌}
use Rattle.std.specs.List.{flat_map, range_with_len}
use Rattle.conduct_check.specs.Judged.{judged_book}
use Rattle.conduct_check.specs.CallConduct.{arc_broken_findings}
use Rattle.conduct_check.proofs.listing.put_broken_arcs.Given as goal

abbrev pub invariant-loop-arc : goal.invariant-loop-arc
invariant-loop-arc l =
    l.out.items ≡ l.initial.out.items ++ flat_map (arc_broken_findings l.judged.deal.now (judged_book l.judged) l.judged.party) (range_with_len 0 l.arc)
