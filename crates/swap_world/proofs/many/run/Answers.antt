use Rattle.std.proofs.Common.{◌∷◌, [], refl, sym, take, subst}
use Rattle.std.proofs.lemmas.List.Elements.{All-get_or}
use Rattle.swap_job.specs.Step.{CanStep}
use Rattle.swap_run.specs.Run.{continued_run, step}
use Rattle.swap_world.specs.Value.{answering_cast}
use Rattle.swap_world.proofs.Ways.{if_err, over, over_events}
use Rattle.swap_world.proofs.Gone.{begun, can_gone, held_gone, stopped_as, stopped_in}
use Rattle.swap_world.proofs.Loops.{after_some, list_on, list_done, list_stops}
use Rattle.swap_world.proofs.many.run.Goals as goal

pub events-init : goal.events-init
events-init g c = begun (g.A.Strategies.gives c.args.strategies.now) c.args.world.now

pub step-requires-clause-event : goal.step-requires-clause-event
step-requires-clause-event g c =
    let w = c.args.world.now in
    can_gone (g.A.Strategies.gives c.args.strategies.now) (λ c' s. continued_run c' s
    (take c.events.event-index c.args.events.now)) w c.events.world c.event-item.result
    c.events.invariant
    (subst (CanStep w.deal w.conforming w.seeds) (sym c.event-item.is)
    (All-get_or (CanStep w.deal w.conforming w.seeds) c.args.events.now c.events.event-index c.event-item.result c.events-test.true c.requires.events))

pub step-requires-clause-held : goal.step-requires-clause-held
step-requires-clause-held g c =
    held_gone (g.A.Strategies.gives c.args.strategies.now) (λ c' s. continued_run c' s
    (take c.events.event-index c.args.events.now)) c.args.world.now c.events.world _
    c.events.invariant c.requires.held

pub events-preserved : goal.events-preserved
events-preserved g c =
    list_on (g.A.Strategies.gives c.args.strategies.now) step c.args.world.now c.events.world c.step.new.self c.args.events.now c.events.event-index
    c.event-item.result c.events.invariant c.events-test.true c.event-item.is c.in_ok-step.ensures.ok

pub returns-in_err-step-clause-err : goal.returns-in_err-step-clause-err
returns-in_err-step-clause-err g c =
    let w = c.args.world.now in
    let mid = c.events.world in
    let new = c.step.new.self in
    let gives = g.A.Strategies.gives c.args.strategies.now in
    if_err _ (stopped_as gives (λ x s. over (step x) (λ t y. y ∷ []) s c.args.events.now) (λ x s. c.args.events.now) w new
    (λ a. over_events (answering_cast w a) c.args.events.now w.state)
    (list_stops gives step w mid new c.args.events.now c.events.event-index c.event-item.result c.events.invariant (λ x s y. y ∷ []) c.events-test.true
    c.event-item.is (λ a s y. refl) (stopped_in gives mid new c.event-item.result c.in_err-step.ensures.err c.in_err-step.ensures.cut)))

pub returns-in_err-step-clause-prefix : goal.returns-in_err-step-clause-prefix
returns-in_err-step-clause-prefix g c =
    if_err _ (after_some (g.A.Strategies.gives c.args.strategies.now) c.args.world.now c.events.world c.step.new.self c.args.events.now c.events.event-index
    c.event-item.result c.events-test.true c.event-item.is c.events.invariant c.in_err-step.ensures.cut)

pub returns-clause-ok : goal.returns-clause-ok
returns-clause-ok g c =
    list_done (g.A.Strategies.gives c.args.strategies.now) step c.args.world.now c.events.world c.args.events.now c.events.event-index c.events-test.false
    c.events.invariant
