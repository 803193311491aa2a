use Rattle.std.proofs.Common.{map}
use Rattle.std.proofs.lemmas.Result.{err_from_is_err_and}
use Rattle.offer_moves.proofs.Lists.{goes_on, ends, is_done}
use Rattle.offer_header.specs.Names.{named_ends}
use Rattle.offer_header.proofs.names.resolve_all_ends.Goals as goal

pub returns-in_err-resolve_arc_ends : goal.returns-in_err-resolve_arc_ends
returns-in_err-resolve_arc_ends c =
    let p = err_from_is_err_and c.from_residual.result c.from_residual.ensures.1 in
    rw (p.1, p.2) (ends (named_ends c.args.line (map (λ k. k.now) c.args.names.now.keys))
    c.in_err-resolve_arc_ends.field-0.0 c.loop-arc.list.items c.args.arcs.now c.loop-arc.arc-index c.arc-item.result _ c.loop-arc-test.true c.arc-item.is
    c.in_err-resolve_arc_ends.ensures c.loop-arc.invariant)

pub loop-arc-preserved : goal.loop-arc-preserved
loop-arc-preserved c =
    rw c.in_ok-push.ensures.items (goes_on (named_ends c.args.line (map (λ k. k.now) c.args.names.now.keys))
    c.loop-arc.list.items c.args.arcs.now c.loop-arc.arc-index c.arc-item.result c.in_ok-resolve_arc_ends.field-0 _ c.loop-arc-test.true c.arc-item.is
    c.in_ok-resolve_arc_ends.ensures c.loop-arc.invariant)

pub returns : goal.returns
returns c = rw c.new.ensures (is_done (named_ends c.args.line (map (λ k. k.now) c.args.names.now.keys))
    c.loop-arc.list.items c.args.arcs.now c.loop-arc.arc-index _ c.loop-arc-test.false c.loop-arc.invariant)
