use Rattle.std.proofs.Common.{◌≡◌, ◌<◌, ◌&&◌, ℕ, length}
use Rattle.leader_check.specs.Followers.{is_marked_place}
use Rattle.leader_check.specs.Cycles.{has_bit, enters_led}
use Rattle.leader_check.proofs.cycle.next_row.Given as goal

abbrev pub invariant-loop-u : goal.invariant-loop-u
invariant-loop-u l =
    record {
      size : length l.next.items ≡ l.u;
      leads : (v w : ℕ) → w < l.u → has_bit l.next.items v w ≡ (is_marked_place l.follows w && enters_led l.graph (has_bit l.row v) w);
    }
