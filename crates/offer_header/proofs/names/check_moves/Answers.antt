use Rattle.std.proofs.Common.{map}
use Rattle.std.proofs.lemmas.Result.{err_from_is_err_and}
use Rattle.swap_base.proofs.Steps.{steps_on, steps_fail}
use Rattle.offer_header.specs.Names.{move_known}
use Rattle.offer_header.proofs.names.check_moves.Goals as goal

pub returns-in_err-check_move : goal.returns-in_err-check_move
returns-in_err-check_move c =
    let p = err_from_is_err_and c.from_residual.result c.from_residual.ensures.1 in
    rw (p.1, p.2) (steps_fail c.in_err-check_move.field-0.0 (λ u mv. move_known c.args.line (map (λ k. k.now) c.args.all.now.keys) mv) tt
    c.args.moves.now c.loop-mv.mv-index c.mv-item.result _ c.loop-mv-test.true c.mv-item.is c.in_err-check_move.ensures c.loop-mv.invariant)

pub loop-mv-preserved : goal.loop-mv-preserved
loop-mv-preserved c =
    steps_on (λ u mv. move_known c.args.line (map (λ k. k.now) c.args.all.now.keys) mv) tt tt c.args.moves.now c.loop-mv.mv-index c.mv-item.result _
    c.loop-mv-test.true c.mv-item.is c.in_ok-check_move.ensures c.loop-mv.invariant
