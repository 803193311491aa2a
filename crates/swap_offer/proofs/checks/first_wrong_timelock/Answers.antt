use Rattle.std.proofs.Common.{◌<◌, ◌∙◌, sym, ap, is_some, length}
use Rattle.leader_check.proofs.Loops.{first_goes_on}
use Rattle.swap_offer.specs.Checks.{wrong_timelock}
use Rattle.swap_offer.proofs.checks.first_wrong_timelock.Goals as goal

pub loop-arc-preserved : goal.loop-arc-preserved
loop-arc-preserved c =
    let lt : c.loop-arc.arc < length c.args.graph.now.arcs = rw c.arcs.ensures at c.loop-arc-test.true in
    first_goes_on (wrong_timelock c.args.header.now c.args.graph.now c.args.leader) c.loop-arc.arc (length c.args.graph.now.arcs) _ lt
    (ap is_some (sym c.wrong_timelock-reason.ensures) ∙ sym c.is_some.ensures ∙ c.if-is_some.false) c.loop-arc.invariant
