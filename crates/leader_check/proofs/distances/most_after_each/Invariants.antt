use Rattle.std.proofs.Common.{◌≡◌, ◌==◌, ℕ, cond, max, length, drop, slice_index}
use Rattle.swap_base.specs.Lists.{greatest}
use Rattle.leader_check.proofs.distances.most_after_each.Given as goal

abbrev pub invariant-loop-arc : goal.invariant-loop-arc
invariant-loop-arc l =
    record {
      size : length l.most.items ≡ l.graph.n;
      most : (v : ℕ) → max (slice_index l.most.items v) (greatest (λ a. cond (a.from == v) (slice_index l.row a.to) 0) (drop l.arc-index l.arc-items))
          ≡ greatest (λ a. cond (a.from == v) (slice_index l.row a.to) 0) l.arc-items;
    }
