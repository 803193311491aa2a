use Rattle.std.proofs.Common.{◌≡◌, ◌<◌, ◌&&◌, ◌==◌, ℕ, length}
use Rattle.leader_check.specs.Followers.{is_marked_place}
use Rattle.leader_check.specs.Cycles.{has_bit}
use Rattle.leader_check.proofs.cycle.first_row.Given as goal

abbrev pub invariant-loop-u : goal.invariant-loop-u
invariant-loop-u l =
    record {
      size : length l.row.items ≡ l.u;
      stays : (v w : ℕ) → w < l.u → has_bit l.row.items v w ≡ (is_marked_place l.follows w && (w == v));
    }
