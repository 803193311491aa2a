use Rattle.std.proofs.Common.{arith, refl}
use Rattle.swap_run.specs.Run.{continued_run}
use Rattle.swap_world.proofs.Gone.{stopped_before}
use Rattle.swap_world.proofs.Worlds.{kept_to}
use Rattle.swap_world.proofs.world.World.run.Goals as goal

pub returns-then-self-clause-err : goal.returns-then-self-clause-err
returns-then-self-clause-err g c =
    stopped_before (g.A.Strategies.gives c.args.strategies.now) (λ x s. c.args.events.now) c.args.self.now (rw (← c.self.view_is) c.if-self.true)

pub returns-then-self-clause-prefix : goal.returns-then-self-clause-prefix
returns-then-self-clause-prefix g c = record { count = 0; few = omega arith; book = λ a h. refl }

pub returns-then-self-clause-kept : goal.returns-then-self-clause-kept
returns-then-self-clause-kept g c = rw (← c.self.view_is) c.self.invariant.kept

pub returns-clause-kept : goal.returns-clause-kept
returns-clause-kept g c =
    let w = c.args.self.now in
    kept_to c.run.result (g.A.Strategies.gives c.args.strategies.now) (λ x s. continued_run x s c.args.events.now) (λ x s. c.args.events.now) w c.run.new.world
    c.run.ensures.ok c.run.ensures.err (λ a. record { events = c.args.events.now; can = c.requires.events; state = refl }) (λ a. c.requires.events)
    (rw (← c.self.view_is) c.self.invariant.ready) (rw (← c.self.view_is) (c.self.invariant.good c.if-self.false))
