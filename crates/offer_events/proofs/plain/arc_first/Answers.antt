use Rattle.std.proofs.Common.{refl, arith}
use Rattle.offer_events.proofs.PlainText.{arc_then_look}
use Rattle.offer_events.proofs.plain.arc_first.Goals as goal

pub returns : goal.returns
returns c = λ line. rw c.new.ensures (arc_then_look line c.in_ok-arc.arc c.in_ok-name.name.now c.args.text.now c.in_ok-arc.rest.now c.in_ok-name.end.now
    (omega (arith, c.in_ok-arc.ensures.small)) c.in_ok-name.ensures.plain c.in_ok-arc.ensures.digits c.in_ok-name.ensures.quoted
    (c.if-not-is_closed.ensures refl))
