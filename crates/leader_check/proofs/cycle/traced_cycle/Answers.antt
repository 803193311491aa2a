use Rattle.std.proofs.Common.{◌≡◌, ◌∙◌, sym, ap, List, [], Bool, true, false, ℕ, ◌+◌, Some, is_some, arith}
use Rattle.std.proofs.lemmas.List.{get_or_read}
use Rattle.leader_check.specs.Cycles.{only_if, has_bit, has_row_bit, least_walk, distance_cycle}
use Rattle.leader_check.proofs.Loops.{first_goes_on, first_is_found}
use Rattle.leader_check.proofs.cycle.traced_cycle.Goals as goal

pub returns-then-holds : goal.returns-then-holds
returns-then-holds c =
    let row =
    c.as_slice.ensures ∙ get_or_read c.args.rows.now c.loop-k.k c.index-rows-k.result (let s = c.requires.size in
    omega (arith, s)) c.index-rows-k.is [] in
    let closed : has_row_bit c.args.rows.now c.args.v c.loop-k.k c.args.v ≡ true =
    ap (λ (r : List ℕ). has_bit r c.args.v c.args.v) (sym row) ∙ sym c.holds.ensures ∙ c.if-holds.true in
    let found : distance_cycle c.args.graph.now (has_row_bit c.args.rows.now c.args.v) c.args.v c.loop-k.k ≡ Some c.in_ok-least_walk.field-0 =
    ap (λ (b : Bool). only_if b (least_walk c.args.graph.now (has_row_bit c.args.rows.now c.args.v) c.loop-k.k c.args.v)) closed
    ∙ ap (λ (xs : List ℕ). Some xs) (sym c.in_ok-least_walk.ensures) in
    sym found ∙ first_is_found (distance_cycle c.args.graph.now (has_row_bit c.args.rows.now c.args.v) c.args.v) c.loop-k.k (c.args.graph.now.n + 1) _
    (omega arith) (ap is_some found) c.loop-k.invariant

pub loop-k-preserved : goal.loop-k-preserved
loop-k-preserved c =
    let row =
    c.as_slice.ensures ∙ get_or_read c.args.rows.now c.loop-k.k c.index-rows-k.result (let s = c.requires.size in
    omega (arith, s)) c.index-rows-k.is [] in
    let open_walk : has_row_bit c.args.rows.now c.args.v c.loop-k.k c.args.v ≡ false =
    ap (λ (r : List ℕ). has_bit r c.args.v c.args.v) (sym row) ∙ sym c.holds.ensures ∙ c.if-holds.false in
    first_goes_on (distance_cycle c.args.graph.now (has_row_bit c.args.rows.now c.args.v) c.args.v) c.loop-k.k (c.args.graph.now.n + 1) _ (omega arith)
    (ap (λ (b : Bool). is_some (only_if b (least_walk c.args.graph.now (has_row_bit c.args.rows.now c.args.v) c.loop-k.k c.args.v))) open_walk) c.loop-k.invariant
