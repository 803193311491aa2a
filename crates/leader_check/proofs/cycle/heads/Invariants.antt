use Rattle.std.proofs.Common.{◌≡◌, ◌==◌, ◌&&◌, ◌||◌, ℕ, drop}
use Rattle.std.specs.Int.{bit_at}
use Rattle.std.specs.List.{list_any}
use Rattle.leader_check.proofs.cycle.heads.Given as goal

abbrev pub invariant-loop-arc : goal.invariant-loop-arc
invariant-loop-arc l =
    (w : ℕ) → ((bit_at l.bits w == 1) || list_any (λ a. (a.from == l.u) && (a.to == w)) (drop l.arc-index l.arc-items))
    ≡ list_any (λ a. (a.from == l.u) && (a.to == w)) l.arc-items
