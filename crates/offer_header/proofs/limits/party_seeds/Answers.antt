use Rattle.offer_header.proofs.Listing.{one_more}
use Rattle.offer_header.specs.declared.limits.Acting.{Acting}
use Rattle.offer_header.proofs.limits.party_seeds.Goals as goal

pub loop-party-preserved : goal.loop-party-preserved
loop-party-preserved c =
    one_more (λ (p : Acting). p.seed) c.args.parties.now c.loop-party.party-index c.party-item.result c.loop-party.list.items c.push.new.self.items
    c.loop-party-test.true c.party-item.is c.loop-party.invariant c.in_ok-push.ensures.items
