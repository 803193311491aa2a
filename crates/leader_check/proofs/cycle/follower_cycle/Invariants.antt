use Rattle.std.proofs.Common.{◌≡◌, ◌-◌}
use Rattle.std.specs.List.{range_with_len}
use Rattle.swap_base.specs.Lists.{first_given_answer}
use Rattle.leader_check.specs.Cycles.{traced_cycle}
use Rattle.swap_digraph.specs.Graph.{parties}
use Rattle.leader_check.proofs.cycle.follower_cycle.Given as goal

abbrev pub invariant-loop-v : goal.invariant-loop-v
invariant-loop-v l = first_given_answer (traced_cycle l.graph l.leaders) (range_with_len l.v (l.graph.n - l.v))
    ≡ first_given_answer (traced_cycle l.graph l.leaders) (parties l.graph)
