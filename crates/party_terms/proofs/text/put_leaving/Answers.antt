use Rattle.party_terms.proofs.TouchingArcs.{leaving_below}
use Rattle.party_terms.proofs.text.put_leaving.Goals as goal

pub put_paid-requires-clause-arc : goal.put_paid-requires-clause-arc
put_paid-requires-clause-arc c =
    leaving_below c.args.deal.now.graph c.args.party c.arcs.arc-index c.leaving-arc-items.result.now c.leaving-arc-items.ensures c.arcs-test.true
