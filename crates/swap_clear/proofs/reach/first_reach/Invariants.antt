use Rattle.std.proofs.Common.{◌≡◌, ◌<◌, ◌==◌, ℕ, length}
use Rattle.leader_check.specs.Cycles.{has_bit}
use Rattle.swap_clear.proofs.reach.first_reach.Given as goal

abbrev pub invariant-loop-v : goal.invariant-loop-v
invariant-loop-v l =
    record {
      size : length l.row.items ≡ l.v;
      own : (v u : ℕ) → u < l.v → has_bit l.row.items v u ≡ (u == v);
    }
