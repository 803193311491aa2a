use Rattle.std.proofs.lemmas.Result.{err_from_is_err_and}
use Rattle.swap_base.proofs.Steps.{steps_on, steps_fail}
use Rattle.offer_moves.specs.Placed.{placed}
use Rattle.offer_header.proofs.scripts.check_moves.Goals as goal

pub returns-in_err-check_place : goal.returns-in_err-check_place
returns-in_err-check_place c =
    let p = err_from_is_err_and c.from_residual.result c.from_residual.ensures.1 in
    rw (p.1, p.2) (steps_fail c.in_err-check_place.field-0.0 (λ u mv. placed c.args.arcs.now c.args.conforming.now c.args.line c.args.p mv) tt
    c.args.moves.now c.loop-mv.mv-index c.mv-item.result _ c.loop-mv-test.true c.mv-item.is c.in_err-check_place.ensures c.loop-mv.invariant)

pub loop-mv-preserved : goal.loop-mv-preserved
loop-mv-preserved c =
    steps_on (λ u mv. placed c.args.arcs.now c.args.conforming.now c.args.line c.args.p mv) tt tt c.args.moves.now c.loop-mv.mv-index c.mv-item.result _
    c.loop-mv-test.true c.mv-item.is c.in_ok-check_place.ensures c.loop-mv.invariant
