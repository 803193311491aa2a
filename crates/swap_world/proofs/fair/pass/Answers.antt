use Rattle.std.proofs.Common.{◌≡◌, arith, subst}
use Rattle.swap_run.specs.Fair.{repeat, ticks}
use Rattle.swap_run.specs.Steps.{pass_steps, tick_steps}
use Rattle.swap_world.specs.Gone.{HasGone}
use Rattle.swap_world.specs.Value.{answering_cast}
use Rattle.swap_world.proofs.Ways.{along_pass, if_err}
use Rattle.swap_world.proofs.Gone.{begun, goes_on_gone}
use Rattle.swap_world.proofs.Loops.{repeat_on, repeat_stops}
use Rattle.swap_world.proofs.fair.pass.Goals as goal

pub rounds-init : goal.rounds-init
rounds-init g c = begun (g.A.Strategies.gives c.args.strategies.now) c.args.world.now

pub ticks-requires : goal.ticks-requires
ticks-requires g c = record {
  goes_on = goes_on_gone (g.A.Strategies.gives c.args.strategies.now) (λ x s. repeat c.rounds.counter (ticks x) s) c.args.world.now c.rounds.world
      c.rounds.invariant c.requires.goes_on;
}

pub rounds-preserved : goal.rounds-preserved
rounds-preserved g c =
    repeat_on (g.A.Strategies.gives c.args.strategies.now) ticks c.args.world.now c.rounds.world c.ticks.new.world c.args.count c.rounds.counter
    c.rounds.invariant c.in_ok-ticks.ensures.ok

pub returns-in_err-ticks-clause-err : goal.returns-in_err-ticks-clause-err
returns-in_err-ticks-clause-err g c =
    let w = c.args.world.now in
    if_err _ (repeat_stops (g.A.Strategies.gives c.args.strategies.now) ticks w c.rounds.world c.ticks.new.world c.args.count c.rounds.counter
    c.rounds.invariant (λ x s. tick_steps x.deal s.book) (pass_steps c.args.count)
    (λ a b k. along_pass (answering_cast w a) c.args.count c.rounds.counter w.state b c.rounds-test.true k) c.in_err-ticks.ensures.err)

pub returns-clause-ok : goal.returns-clause-ok
returns-clause-ok g c =
    let e : c.rounds.counter ≡ c.args.count = omega (arith, c.rounds-test.false, c.rounds.auto) in
    subst (λ n. HasGone (g.A.Strategies.gives c.args.strategies.now) (λ x s. repeat n (ticks x) s) c.args.world.now c.rounds.world) e c.rounds.invariant
