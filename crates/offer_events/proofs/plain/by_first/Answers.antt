use Rattle.std.proofs.Common.{refl, arith}
use Rattle.offer_events.proofs.PlainText.{by_then_tick}
use Rattle.offer_events.proofs.plain.by_first.Goals as goal

pub returns : goal.returns
returns c = λ line. by_then_tick line c.in_ok-arc.arc c.in_ok-heights.heights c.args.text.now c.in_ok-heights.rest.now c.in_ok-arc.end.now
    (omega (arith, c.in_ok-arc.ensures.small)) (omega (arith, c.in_ok-heights.ensures.small)) c.in_ok-heights.ensures.digits c.in_ok-arc.ensures.digits
    (c.if-not-is_closed.ensures refl)
