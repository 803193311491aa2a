use Rattle.swap_run.specs.Fair.{finish}
use Rattle.swap_run.specs.Steps.{finish_steps}
use Rattle.swap_run.proofs.Along.{finish_can}
use Rattle.swap_run.proofs.Reached.{finish_events}
use Rattle.swap_world.specs.Value.{answering_cast}
use Rattle.swap_world.proofs.Finishes.{dealt_by, has_ended_by}
use Rattle.swap_world.proofs.Gone.{stopped_before}
use Rattle.swap_world.proofs.Worlds.{kept_to}
use Rattle.swap_world.proofs.world.World.finish_fair.Goals as goal

pub returns-then-self-clause-err : goal.returns-then-self-clause-err
returns-then-self-clause-err g c =
    let w = c.args.self.now in
    stopped_before (g.A.Strategies.gives c.args.strategies.now) finish_steps w (rw (← c.self.view_is) c.if-self.true)

pub returns-clause-ended : goal.returns-clause-ended
returns-clause-ended g c =
    has_ended_by (g.A.Strategies.gives c.args.strategies.now) c.args.self.now c.finish.new.world (rw (← c.self.view_is) c.self.invariant.ready) c.finish.result
    c.finish.ensures.ok (rw (← c.self.view_is) (c.self.invariant.good c.if-self.false))

pub returns-clause-dealt : goal.returns-clause-dealt
returns-clause-dealt g c =
    dealt_by (g.A.Strategies.gives c.args.strategies.now) c.args.self.now c.finish.new.world (rw (← c.self.view_is) c.self.invariant.ready) c.finish.result
    c.finish.ensures.ok

pub returns-then-self-clause-kept : goal.returns-then-self-clause-kept
returns-then-self-clause-kept g c = rw (← c.self.view_is) c.self.invariant.kept

pub returns-clause-kept : goal.returns-clause-kept
returns-clause-kept g c =
    let w = c.args.self.now in
    kept_to c.finish.result (g.A.Strategies.gives c.args.strategies.now) finish finish_steps w c.finish.new.world c.finish.ensures.ok c.finish.ensures.err
    (λ a. finish_events (answering_cast w a) w.state) (λ a. finish_can (answering_cast w a) w.state)
    (rw (← c.self.view_is) c.self.invariant.ready) (rw (← c.self.view_is) (c.self.invariant.good c.if-self.false))
