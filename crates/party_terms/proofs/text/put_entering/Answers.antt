use Rattle.party_terms.proofs.TouchingArcs.{entering_below}
use Rattle.party_terms.proofs.text.put_entering.Goals as goal

pub put_got-requires-clause-arc : goal.put_got-requires-clause-arc
put_got-requires-clause-arc c =
    entering_below c.args.deal.now.graph c.args.party c.arcs.arc-index c.entering-arc-items.result.now c.entering-arc-items.ensures c.arcs-test.true
