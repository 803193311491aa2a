use Rattle.std.proofs.Common.{◌≡◌, arith, subst}
use Rattle.swap_run.specs.Fair.{repeat}
use Rattle.swap_many.specs.Fair.{kept_ticks}
use Rattle.swap_many.specs.Value.{HasManyGone}
use Rattle.swap_many.proofs.Gone.{begun, on_gone, repeat_on, repeat_stops}
use Rattle.swap_many.proofs.Turning.{ticks_lead}
use Rattle.swap_world.proofs.Ways.{if_err}
use Rattle.swap_many.proofs.fair.pass.Goals as goal

pub rounds-init : goal.rounds-init
rounds-init g c = begun (g.A.Strategies.gives c.args.strategies.now) c.args.worlds.now

pub ticks-requires : goal.ticks-requires
ticks-requires g c = record {
  on = on_gone (g.A.Strategies.gives c.args.strategies.now) (λ m z. repeat c.rounds.counter (kept_ticks m) z) c.args.worlds.now c.rounds.worlds _
      c.rounds.invariant c.requires.on;
}

pub rounds-preserved : goal.rounds-preserved
rounds-preserved g c =
    repeat_on (g.A.Strategies.gives c.args.strategies.now) kept_ticks c.args.worlds.now c.rounds.worlds c.ticks.new.worlds c.args.count c.rounds.counter
    c.rounds.invariant c.in_ok-ticks.ensures.ok

pub returns-in_err-ticks-clause-err : goal.returns-in_err-ticks-clause-err
returns-in_err-ticks-clause-err g c =
    if_err _ (repeat_stops (g.A.Strategies.gives c.args.strategies.now) kept_ticks c.args.worlds.now c.rounds.worlds c.ticks.new.worlds c.args.count
    c.rounds.counter c.rounds.invariant c.rounds-test.true c.requires.on.ready (ticks_lead c.args.worlds.now c.requires.on.ready)
    c.in_err-ticks.ensures.err)

pub returns-clause-ok : goal.returns-clause-ok
returns-clause-ok g c =
    let e : c.rounds.counter ≡ c.args.count = omega (arith, c.rounds-test.false, c.rounds.auto) in
    subst (λ n. HasManyGone (g.A.Strategies.gives c.args.strategies.now) (λ m z. repeat n (kept_ticks m) z) c.args.worlds.now c.rounds.worlds) e
    c.rounds.invariant
