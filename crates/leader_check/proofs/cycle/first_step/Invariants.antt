use Rattle.std.proofs.Common.{◌≡◌, ◌-◌, ◌&&◌}
use Rattle.std.specs.List.{range_with_len}
use Rattle.swap_base.specs.Lists.{first_given_answer}
use Rattle.swap_digraph.specs.Graph.{parties, has_arc}
use Rattle.leader_check.specs.Cycles.{has_bit, only_if}
use Rattle.leader_check.proofs.cycle.first_step.Given as goal

abbrev pub invariant-loop-w : goal.invariant-loop-w
invariant-loop-w l =
    first_given_answer (λ w. only_if (has_arc l.graph l.u w && has_bit l.row l.v w) w) (range_with_len l.w (l.graph.n - l.w))
    ≡ first_given_answer (λ w. only_if (has_arc l.graph l.u w && has_bit l.row l.v w) w) (parties l.graph)
