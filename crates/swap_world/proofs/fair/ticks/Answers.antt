use Rattle.std.proofs.Common.{◌<◌, ◌≤◌, length, fold, take, sym, subst}
use Rattle.std.specs.List.{range_with_len}
use Rattle.swap_run.specs.Fair.{tick_low}
use Rattle.swap_run.specs.Steps.{low_step}
use Rattle.swap_world.specs.Value.{answering_cast}
use Rattle.swap_world.proofs.Ways.{if_err, low_run}
use Rattle.swap_world.proofs.Gone.{begun, deal_gone, goes_on_gone}
use Rattle.swap_world.proofs.Loops.{range_on, range_done, range_stops}
use Rattle.swap_world.proofs.Finishes.{ticks_stop, ticks_are}
use Rattle.swap_world.proofs.fair.ticks.Goals as goal

pub arcs-init : goal.arcs-init
arcs-init g c = begun (g.A.Strategies.gives c.args.strategies.now) c.args.world.now

pub tick_low-requires-clause-arc : goal.tick_low-requires-clause-arc
tick_low-requires-clause-arc g c =
    let w = c.args.world.now in
    let l : c.arcs.arc < length w.deal.graph.arcs = rw (← c.deal.ensures.value, ← c.arcs-2.ensures) c.arcs-test.true in
    subst (λ d. c.arcs.arc < length d.graph.arcs) (sym (deal_gone (g.A.Strategies.gives c.args.strategies.now)
    (λ x s. fold (tick_low x) s (take c.arcs.arc (range_with_len 0 (length w.deal.graph.arcs)))) w c.arcs.world c.arcs.invariant)) l

pub tick_low-requires-clause-goes_on : goal.tick_low-requires-clause-goes_on
tick_low-requires-clause-goes_on g c =
    let w = c.args.world.now in
    goes_on_gone (g.A.Strategies.gives c.args.strategies.now) (λ x s. fold (tick_low x) s (take c.arcs.arc (range_with_len 0 (length w.deal.graph.arcs)))) w
    c.arcs.world c.arcs.invariant c.requires.goes_on

pub returns-in_err-tick_low-clause-err : goal.returns-in_err-tick_low-clause-err
returns-in_err-tick_low-clause-err g c =
    let gives = g.A.Strategies.gives c.args.strategies.now in
    let w = c.args.world.now in
    let l : c.arcs.arc < length w.deal.graph.arcs = rw (← c.deal.ensures.value, ← c.arcs-2.ensures) c.arcs-test.true in
    if_err _ (ticks_stop gives w c.tick_low.new.world (range_stops gives tick_low w c.arcs.world c.tick_low.new.world (length w.deal.graph.arcs) c.arcs.arc
    c.arcs.invariant (λ x s a. low_step x.deal s.book a) l (λ a s y. low_run (answering_cast w a) s y) c.in_err-tick_low.ensures.err))

pub arcs-preserved : goal.arcs-preserved
arcs-preserved g c =
    let w = c.args.world.now in
    let l : c.arcs.arc < length w.deal.graph.arcs = rw (← c.deal.ensures.value, ← c.arcs-2.ensures) c.arcs-test.true in
    range_on (g.A.Strategies.gives c.args.strategies.now) tick_low w c.arcs.world c.tick_low.new.world (length w.deal.graph.arcs) c.arcs.arc c.arcs.invariant l
    c.in_ok-tick_low.ensures.ok

pub returns-clause-ok : goal.returns-clause-ok
returns-clause-ok g c =
    let gives = g.A.Strategies.gives c.args.strategies.now in
    let w = c.args.world.now in
    let l : length w.deal.graph.arcs ≤ c.arcs.arc = rw (← c.deal.ensures.value, ← c.arcs-2.ensures) c.arcs-test.false in
    ticks_are gives w c.arcs.world (range_done gives tick_low w c.arcs.world (length w.deal.graph.arcs) c.arcs.arc l c.arcs.invariant)
