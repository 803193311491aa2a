use Rattle.offer_text.specs.HeaderLine.{leader_value}
use Rattle.offer_text.proofs.Values.{number_more}
use Rattle.offer_text.proofs.deal.leaders_value.Goals as goal

pub loop-lock-preserved : goal.loop-lock-preserved
loop-lock-preserved c =
    number_more (leader_value c.args.names.now c.args.deal.now) c.loop-lock.list.items c.push.new.self.items c.loop-lock.lock c.in_ok-leader_value.field-0
    c.loop-lock.invariant c.in_ok-push.ensures.items c.in_ok-leader_value.ensures
