use Rattle.std.proofs.Common.{◌≡◌, ◌+◌, ◌-◌}
use Rattle.std.specs.List.{range_with_len}
use Rattle.swap_base.specs.Lists.{first_given_answer}
use Rattle.leader_check.specs.Cycles.{distance_cycle, has_row_bit}
use Rattle.leader_check.proofs.cycle.traced_cycle.Given as goal

abbrev pub invariant-loop-k : goal.invariant-loop-k
invariant-loop-k l =
    first_given_answer (distance_cycle l.graph (has_row_bit l.rows l.v) l.v) (range_with_len l.k (l.graph.n + 1 - l.k))
    ≡ first_given_answer (distance_cycle l.graph (has_row_bit l.rows l.v) l.v) (range_with_len 1 l.graph.n)
