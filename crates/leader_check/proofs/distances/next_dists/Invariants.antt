use Rattle.std.proofs.Common.{◌≡◌, map, slice_index}
use Rattle.std.specs.List.{range_with_len}
use Rattle.leader_check.specs.Distance.{prior_distance}
use Rattle.leader_check.proofs.distances.next_dists.Given as goal

abbrev pub invariant-loop-v : goal.invariant-loop-v
invariant-loop-v l = l.next.items ≡ map (prior_distance l.graph l.leader (slice_index l.row)) (range_with_len 0 l.v)
