use Rattle.std.proofs.lemmas.Result.{err_from_is_err_and}
use Rattle.offer_moves.proofs.Lists.{goes_on, ends, is_done}
use Rattle.offer_header.proofs.limits.limit_each.Goals as goal

pub returns-in_err-limit : goal.returns-in_err-limit
returns-in_err-limit g c =
    let p = err_from_is_err_and c.from_residual.result c.from_residual.ensures.1 in
    rw (p.1, p.2) (ends (g.T.Limited.limited_value c.args.context c.args.line)
    c.in_err-limit.field-0.0 c.loop-part.list.items c.args.parts.now c.loop-part.part-index c.part-item.result _ c.loop-part-test.true c.part-item.is
    c.in_err-limit.ensures c.loop-part.invariant)

pub loop-part-preserved : goal.loop-part-preserved
loop-part-preserved g c =
    rw c.in_ok-push.ensures.items (goes_on (g.T.Limited.limited_value c.args.context c.args.line)
    c.loop-part.list.items c.args.parts.now c.loop-part.part-index c.part-item.result c.in_ok-limit.field-0 _ c.loop-part-test.true c.part-item.is
    c.in_ok-limit.ensures c.loop-part.invariant)

pub returns : goal.returns
returns g c = rw c.new.ensures (is_done (g.T.Limited.limited_value c.args.context c.args.line)
    c.loop-part.list.items c.args.parts.now c.loop-part.part-index _ c.loop-part-test.false c.loop-part.invariant)
