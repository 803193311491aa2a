use Rattle.std.proofs.Common.{◌≡◌, ◌∙◌, sym, subst, ◌<◌, ℕ, List, arith, length}
use Rattle.swap_clear.specs.Rows.{TellsBoundedReach}
use Rattle.swap_clear.proofs.Rounds.{rows_first, rows_next, rows_all}
use Rattle.swap_clear.proofs.reach.reach_rows.Goals as goal

pub loop-round-init : goal.loop-round-init
loop-round-init c =
    rows_first c.args.graph.now c.in_ok-row.row.items (c.in_ok-row.ensures.parties ∙ c.n-n.ensures)
    (λ v u lt. c.in_ok-row.ensures.own v u (subst (λ (n : ℕ). u < n) (sym c.n-n.ensures) lt))

pub next_reach-requires-clause-row : goal.next_reach-requires-clause-row
next_reach-requires-clause-row c =
    subst (λ (xs : List ℕ). length xs ≡ c.args.graph.now.n) (sym c.deref.ensures.value) c.loop-round.invariant.parties

pub loop-round-preserved : goal.loop-round-preserved
loop-round-preserved c =
    rows_next c.args.graph.now c.loop-round._round c.deref.result.now c.in_ok-row-2.row.items c.requires.ends
    (subst (λ (xs : List ℕ). TellsBoundedReach c.args.graph.now c.loop-round._round xs) (sym c.deref.ensures.value) c.loop-round.invariant)
    c.in_ok-row-2.ensures.parties c.in_ok-row-2.ensures.leads

pub returns : goal.returns
returns c = rows_all c.args.graph.now c.loop-round._round c.loop-round.row.items (omega arith) c.loop-round.invariant
