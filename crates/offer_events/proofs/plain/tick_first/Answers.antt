use Rattle.std.proofs.Common.{refl, arith}
use Rattle.offer_events.proofs.PlainText.{tick_alone, tick_then_by}
use Rattle.offer_events.proofs.plain.tick_first.Goals as goal

pub returns-then-is_closed : goal.returns-then-is_closed
returns-then-is_closed c = λ line. tick_alone line c.in_ok-arc.arc c.args.text.now c.in_ok-arc.rest.now
    (omega (arith, c.in_ok-arc.ensures.small)) c.in_ok-arc.ensures.digits (c.if-is_closed.ensures refl)

pub returns : goal.returns
returns c = λ line. tick_then_by line c.in_ok-arc.arc c.in_ok-heights.heights c.args.text.now c.in_ok-arc.rest.now c.in_ok-heights.end.now
    (omega (arith, c.in_ok-arc.ensures.small)) (omega (arith, c.in_ok-heights.ensures.small)) c.in_ok-arc.ensures.digits c.in_ok-heights.ensures.digits
    (c.if-not-is_closed.ensures refl)
