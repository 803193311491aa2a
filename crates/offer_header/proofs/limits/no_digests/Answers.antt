use Rattle.offer_header.specs.Limits.{no_digest}
use Rattle.offer_header.proofs.Listing.{one_more}
use Rattle.offer_header.proofs.limits.no_digests.Goals as goal

pub loop-leader-preserved : goal.loop-leader-preserved
loop-leader-preserved c =
    one_more (λ x. no_digest) c.args.leaders.now c.loop-leader._leader-index c._leader-item.result c.loop-leader.list.items c.push.new.self.items
    c.loop-leader-test.true c._leader-item.is c.loop-leader.invariant c.in_ok-push.ensures.items
