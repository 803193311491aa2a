use Rattle.std.proofs.Common.{◌≡◌, ◌+◌, cond, map, slice_index}
use Rattle.std.specs.List.{range_with_len}
use Rattle.leader_check.specs.Followers.{is_marked_place}
use Rattle.leader_check.specs.Levels.{greatest_prior_value}
use Rattle.leader_check.proofs.rounds.next_levels.Given as goal

abbrev pub invariant-loop-v : goal.invariant-loop-v
invariant-loop-v l = l.next.items ≡ map (λ v. cond (is_marked_place l.follows v) (greatest_prior_value l.graph (slice_index l.row) v + 1) 0) (range_with_len 0 l.v)
