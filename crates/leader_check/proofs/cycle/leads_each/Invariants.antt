use Rattle.std.proofs.Common.{◌≡◌, ◌==◌, ◌&&◌, ◌||◌, ℕ, length, drop}
use Rattle.std.specs.List.{list_any}
use Rattle.leader_check.specs.Cycles.{has_bit}
use Rattle.leader_check.proofs.cycle.leads_each.Given as goal

abbrev pub invariant-loop-arc : goal.invariant-loop-arc
invariant-loop-arc l =
    record {
      size : length l.leads.items ≡ l.graph.n;
      leads : (v u : ℕ) → (has_bit l.leads.items v u || list_any (λ a. (a.from == u) && has_bit l.row v a.to) (drop l.arc-index l.arc-items))
          ≡ list_any (λ a. (a.from == u) && has_bit l.row v a.to) l.arc-items;
    }
