use Rattle.std.proofs.lemmas.Result.{err_from_is_err_and}
use Rattle.offer_moves.proofs.Lists.{starts, ends}
use Rattle.offer_moves.specs.Moves.{parse_move}
use Rattle.offer_header.proofs.limits.parse_moves.Goals as goal

pub loop-mv-init : goal.loop-mv-init
loop-mv-init c = rw c.new-list.ensures.items (starts (parse_move c.args.sizes c.args.names.now c.args.line) c.args.moves.now)

pub returns-in_err-parse_move : goal.returns-in_err-parse_move
returns-in_err-parse_move c =
    let p = err_from_is_err_and c.from_residual.result c.from_residual.ensures.1 in
    rw (p.1, p.2) (ends (parse_move c.args.sizes c.args.names.now c.args.line) c.in_err-parse_move.field-0.0 c.loop-mv.list.items c.args.moves.now
    c.loop-mv.mv-index c.mv-item.result _ c.loop-mv-test.true c.mv-item.is c.in_err-parse_move.ensures c.loop-mv.invariant)
