use Rattle.std.proofs.Common.{◌≡◌, [], replicate}
use Rattle.swap_run.proofs.planner.nothing_known.Given as goal

abbrev pub invariant-arcs : goal.invariant-arcs
invariant-arcs l = l.histories.items ≡ replicate l._arc []
