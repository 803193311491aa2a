use Rattle.std.proofs.Common.{◌∙◌, sym, ap, subst, is_some, arith}
use Rattle.leader_check.specs.Cycles.{traced_cycle, follower_cycle, TellAllWalks}
use Rattle.leader_check.proofs.Loops.{first_goes_on, first_is_found, first_is_none}
use Rattle.leader_check.proofs.Rows.{cycle_is_from}
use Rattle.leader_check.proofs.cycle.follower_cycle.Goals as goal

pub returns-then-is_some : goal.returns-then-is_some
unfolding follower_cycle
returns-then-is_some c =
    let tell = subst (TellAllWalks c.args.graph.now c.args.leaders.now) (sym c.deref.ensures.value) c.in_ok-rows.ensures in
    let is = c.in_ok-found.ensures ∙ cycle_is_from c.args.graph.now c.args.leaders.now c.deref.result.now c.loop-v.v tell in
    is ∙ first_is_found (traced_cycle c.args.graph.now c.args.leaders.now) c.loop-v.v c.args.graph.now.n _ (omega arith) (ap is_some (sym is)
    ∙ sym c.is_some.ensures ∙ c.if-is_some.true) c.loop-v.invariant

pub loop-v-preserved : goal.loop-v-preserved
loop-v-preserved c =
    let tell = subst (TellAllWalks c.args.graph.now c.args.leaders.now) (sym c.deref.ensures.value) c.in_ok-rows.ensures in
    let is = c.in_ok-found.ensures ∙ cycle_is_from c.args.graph.now c.args.leaders.now c.deref.result.now c.loop-v.v tell in
    first_goes_on (traced_cycle c.args.graph.now c.args.leaders.now) c.loop-v.v c.args.graph.now.n _ (omega arith) (ap is_some (sym is)
    ∙ sym c.is_some.ensures ∙ c.if-is_some.false) c.loop-v.invariant

pub returns : goal.returns
unfolding follower_cycle
returns c = first_is_none (traced_cycle c.args.graph.now c.args.leaders.now) c.loop-v.v c.args.graph.now.n _ (omega arith) c.loop-v.invariant
