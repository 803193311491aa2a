use Rattle.std.proofs.Common.{map}
use Rattle.std.proofs.lemmas.Result.{err_from_is_err_and}
use Rattle.swap_base.proofs.Steps.{steps_fail, steps_done}
use Rattle.offer_header.specs.Names.{leader_step}
use Rattle.offer_header.proofs.names.number_leaders.Goals as goal

pub returns-in_err-add_leader : goal.returns-in_err-add_leader
returns-in_err-add_leader c =
    let p = err_from_is_err_and c.from_residual.result c.from_residual.ensures.1 in
    rw (p.1, p.2) (steps_fail c.in_err-add_leader.field-0.0 (leader_step c.args.line (map (λ k. k.now) c.args.names.now.keys))
    c.loop-leader.numbers.items c.args.leaders.now c.loop-leader.leader-index c.leader-item.result _ c.loop-leader-test.true c.leader-item.is
    c.in_err-add_leader.ensures c.loop-leader.invariant)

pub returns : goal.returns
returns c = rw c.new.ensures (steps_done (leader_step c.args.line (map (λ k. k.now) c.args.names.now.keys))
    c.loop-leader.numbers.items c.args.leaders.now c.loop-leader.leader-index _ c.loop-leader-test.false c.loop-leader.invariant)
