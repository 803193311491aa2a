use Rattle.std.proofs.Common.{refl, arith}
use Rattle.offer_events.proofs.PlainText.{look_then_arc}
use Rattle.offer_events.proofs.plain.look_first.Goals as goal

pub returns : goal.returns
returns c = λ line. rw c.new.ensures (look_then_arc line c.in_ok-arc.arc c.in_ok-name.name.now c.args.text.now c.in_ok-name.rest.now c.in_ok-arc.end.now
    (omega (arith, c.in_ok-arc.ensures.small)) c.in_ok-name.ensures.plain c.in_ok-name.ensures.quoted c.in_ok-arc.ensures.digits
    (c.if-not-is_closed.ensures refl))
