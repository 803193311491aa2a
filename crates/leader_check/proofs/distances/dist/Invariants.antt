use Rattle.std.proofs.Common.{◌≡◌}
use Rattle.leader_check.specs.Distance.{bounded_distances}
use Rattle.leader_check.proofs.distances.dist.Given as goal

abbrev pub invariant-loop-round : goal.invariant-loop-round
invariant-loop-round l = l.row.items ≡ bounded_distances l.graph l.leader l._round
