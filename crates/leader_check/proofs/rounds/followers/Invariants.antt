use Rattle.std.proofs.Common.{◌≡◌, map}
use Rattle.std.specs.List.{range_with_len}
use Rattle.leader_check.specs.Followers.{is_follower}
use Rattle.leader_check.proofs.rounds.followers.Given as goal

abbrev pub invariant-loop-v : goal.invariant-loop-v
invariant-loop-v l = l.row.items ≡ map (is_follower l.graph l.leaders) (range_with_len 0 l.v)
