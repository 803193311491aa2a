use Rattle.std.proofs.lemmas.Result.{err_from_is_err_and}
use Rattle.offer_moves.proofs.Lists.{is_done}
use Rattle.swap_clear.specs.Limits.{proposed_arc}
use Rattle.swap_clear.proofs.Each.{goes_on_at, ends_at}
use Rattle.swap_clear.proofs.limits.each_proposed.Goals as goal

pub returns-in_err-proposed_arc : goal.returns-in_err-proposed_arc
returns-in_err-proposed_arc c =
    let p = err_from_is_err_and c.from_residual.result c.from_residual.ensures.1 in
    rw (p.1, p.2) (ends_at (proposed_arc c.args.line) c.in_err-proposed_arc.field-0.0 c.loop-arc.list.items c.args.arcs.now c.loop-arc.arc-index _ _
    c.loop-arc-test.true c.in_err-proposed_arc.ensures c.loop-arc.invariant)

pub loop-arc-preserved : goal.loop-arc-preserved
loop-arc-preserved c =
    rw c.in_ok-push.ensures.items (goes_on_at (proposed_arc c.args.line) c.loop-arc.list.items c.args.arcs.now c.loop-arc.arc-index _
    c.in_ok-proposed_arc.field-0 _ c.loop-arc-test.true c.in_ok-proposed_arc.ensures c.loop-arc.invariant)

pub returns : goal.returns
returns c = rw c.new.ensures (is_done (proposed_arc c.args.line) c.loop-arc.list.items c.args.arcs.now c.loop-arc.arc-index _ c.loop-arc-test.false
    c.loop-arc.invariant)
