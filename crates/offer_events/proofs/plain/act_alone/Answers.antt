use Rattle.std.proofs.Common.{refl}
use Rattle.offer_events.proofs.PlainText.{act_alone}
use Rattle.offer_events.proofs.plain.act_alone.Goals as goal

pub returns : goal.returns
returns c = λ line. rw c.new.ensures
    (act_alone line c.in_ok-name.name.now c.args.text.now c.in_ok-name.end.now c.in_ok-name.ensures.plain c.in_ok-name.ensures.quoted
    (c.if-not-is_closed.ensures refl))
