use Rattle.std.proofs.Common.{◌≡◌, ℕ, Bool, true, false, refl, ap, ◌∙◌, sym, ◌&&◌, Option, Some, unwrap_or, is_some, arith}
use Rattle.swap_base.proofs.Lists.{and_both}
use Rattle.swap_digraph.specs.Graph.{has_arc}
use Rattle.leader_check.specs.Cycles.{has_bit, only_if, first_step}
use Rattle.leader_check.proofs.Loops.{first_goes_on, first_is_found, first_is_none}
use Rattle.leader_check.proofs.cycle.first_step.Goals as goal
use Rattle.leader_check.proofs.cycle.first_step.Goals.{else-holds-via-then-holds+else-holds-2, else-holds-via-else-holds}

pub returns-then-holds-2 : goal.returns-then-holds-2
unfolding first_step
returns-then-holds-2 c =
    let arc : has_arc c.args.graph.now c.args.u c.loop-w.w ≡ true = sym (c.heads-heads.ensures c.loop-w.w) ∙ sym c.holds.ensures ∙ c.if-holds.true in
    let bit : has_bit c.args.row.now c.args.v c.loop-w.w ≡ true = sym c.holds-then-holds.ensures ∙ c.if-holds-2.true in
    let passes : (has_arc c.args.graph.now c.args.u c.loop-w.w && has_bit c.args.row.now c.args.v c.loop-w.w) ≡ true = and_both _ _ arc bit in
    let found : only_if (has_arc c.args.graph.now c.args.u c.loop-w.w && has_bit c.args.row.now c.args.v c.loop-w.w) c.loop-w.w ≡ Some c.loop-w.w =
    ap (λ b. only_if b c.loop-w.w) passes in
    ap (λ (o : Option ℕ). unwrap_or o 0) (sym found
    ∙ first_is_found (λ w. only_if (has_arc c.args.graph.now c.args.u w && has_bit c.args.row.now c.args.v w) w) c.loop-w.w c.args.graph.now.n _
    (omega arith) (ap is_some found) c.loop-w.invariant)

fails : (a b : Bool) (w : ℕ) → (a ≡ false) → is_some (only_if (a && b) w) ≡ false
fails true b w h = cc h
fails false b w h = refl

fails_second : (a b : Bool) (w : ℕ) → (b ≡ false) → is_some (only_if (a && b) w) ≡ false
fails_second true true w h = cc h
fails_second true false w h = refl
fails_second false b w h = refl

pub loop-w-preserved : goal.loop-w-preserved
loop-w-preserved c =
    first_goes_on (λ w. only_if (has_arc c.args.graph.now c.args.u w && has_bit c.args.row.now c.args.v w) w) c.loop-w.w c.args.graph.now.n _ (omega arith)
    (elim c.else-holds.branch [
      | else-holds-via-then-holds+else-holds-2 w ↦
          fails_second (has_arc c.args.graph.now c.args.u c.loop-w.w) (has_bit c.args.row.now c.args.v c.loop-w.w) c.loop-w.w
          (sym w.holds-then-holds.ensures ∙ w.if-holds-2.false)
      | else-holds-via-else-holds w ↦ fails (has_arc c.args.graph.now c.args.u c.loop-w.w) (has_bit c.args.row.now c.args.v c.loop-w.w) c.loop-w.w
          (sym (c.heads-heads.ensures c.loop-w.w) ∙ sym c.holds.ensures ∙ w.if-holds.false)
    ])
    c.loop-w.invariant

pub returns : goal.returns
unfolding first_step
returns c =
    ap (λ (o : Option ℕ). unwrap_or o 0) (first_is_none (λ w. only_if (has_arc c.args.graph.now c.args.u w && has_bit c.args.row.now c.args.v w) w)
    c.loop-w.w c.args.graph.now.n _ (omega arith) c.loop-w.invariant)
