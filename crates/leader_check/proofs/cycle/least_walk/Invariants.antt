use Rattle.std.proofs.Common.{◌≡◌, ◌++◌, ◌≤◌}
use Rattle.leader_check.specs.Cycles.{has_row_bit, least_walk}
use Rattle.leader_check.proofs.cycle.least_walk.Given as goal

abbrev pub invariant-loop-left : goal.invariant-loop-left
invariant-loop-left l =
    record {
      in_range : l.left ≤ l.k;
      walk : l.list.items ++ least_walk l.graph (has_row_bit l.rows l.v) l.left l.u ≡ least_walk l.graph (has_row_bit l.rows l.v) l.k l.v;
    }
