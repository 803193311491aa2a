use Rattle.offer_text.specs.HeaderLine.{made_party}
use Rattle.offer_text.proofs.Values.{number_more}
use Rattle.offer_text.proofs.parties.made_parties.Goals as goal

pub loop-p-preserved : goal.loop-p-preserved
loop-p-preserved c =
    number_more (made_party c.args.job.now) c.loop-p.list.items c.push.new.self.items c.loop-p.p c.in_ok-made_party.field-0 c.loop-p.invariant
    c.in_ok-push.ensures.items c.in_ok-made_party.ensures
