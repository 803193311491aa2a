use Rattle.std.proofs.Common.{◌<◌, ◌≤◌, arith, fold, take, sym, ap, ◌∙◌, subst}
use Rattle.std.specs.List.{range_with_len}
use Rattle.swap_run.specs.Fair.{adjacent_arcs, turn}
use Rattle.swap_run.specs.Steps.{turn_steps}
use Rattle.swap_run.proofs.Along.{turn_run}
use Rattle.swap_world.specs.Value.{answering_cast}
use Rattle.swap_world.proofs.Ways.{if_err}
use Rattle.swap_world.proofs.Gone.{begun, deal_gone, goes_on_gone, held_gone}
use Rattle.swap_world.proofs.Loops.{range_on, range_done, range_stops}
use Rattle.swap_world.proofs.Finishes.{near_at, near_many, turns_stop, turns_are}
use Rattle.swap_world.proofs.fair.turns.Goals as goal

pub parties-init : goal.parties-init
parties-init g c = begun (g.A.Strategies.gives c.args.strategies.now) c.args.world.now

pub turn-requires-clause-party : goal.turn-requires-clause-party
turn-requires-clause-party g c =
    let w = c.args.world.now in
    let l : c.parties.p < w.deal.graph.n = rw (← c.deal.ensures.value) (omega (arith, c.parties-test.true, c.n-p-end.ensures)) in
    subst (λ d. c.parties.p < d.graph.n) (sym (deal_gone (g.A.Strategies.gives c.args.strategies.now)
    (λ x s. fold (turn x) s (take c.parties.p (range_with_len 0 w.deal.graph.n))) w
    c.parties.world c.parties.invariant)) l

pub bounds-near-place : goal.bounds-near-place
bounds-near-place g c =
    let w = c.args.world.now in
    let l : c.parties.p < w.deal.graph.n = rw (← c.deal.ensures.value) (omega (arith, c.parties-test.true, c.n-p-end.ensures)) in
    subst (λ n. c.parties.p < n) (sym (near_many w.deal c.args.near.now c.requires.near)) l

pub turn-requires-clause-near : goal.turn-requires-clause-near
turn-requires-clause-near g c =
    let w = c.args.world.now in
    let l : c.parties.p < w.deal.graph.n = rw (← c.deal.ensures.value) (omega (arith, c.parties-test.true, c.n-p-end.ensures)) in
    let same = deal_gone (g.A.Strategies.gives c.args.strategies.now) (λ x s. fold (turn x) s (take c.parties.p (range_with_len 0 w.deal.graph.n))) w
    c.parties.world c.parties.invariant in
    c.as_slice.ensures ∙ near_at w.deal c.args.near.now c.parties.p c.index-near-place.result c.requires.near l c.index-near-place.is
    ∙ ap (λ d. adjacent_arcs d c.parties.p) (sym same)

pub turn-requires-clause-goes_on : goal.turn-requires-clause-goes_on
turn-requires-clause-goes_on g c =
    let w = c.args.world.now in
    goes_on_gone (g.A.Strategies.gives c.args.strategies.now)
    (λ x s. fold (turn x) s (take c.parties.p (range_with_len 0 w.deal.graph.n))) w c.parties.world c.parties.invariant
    c.requires.goes_on

pub turn-requires-clause-held : goal.turn-requires-clause-held
turn-requires-clause-held g c =
    let w = c.args.world.now in
    held_gone (g.A.Strategies.gives c.args.strategies.now) (λ x s. fold (turn x) s (take c.parties.p (range_with_len 0 w.deal.graph.n))) w c.parties.world _
    c.parties.invariant c.requires.held

pub returns-in_err-turn-clause-err : goal.returns-in_err-turn-clause-err
returns-in_err-turn-clause-err g c =
    let gives = g.A.Strategies.gives c.args.strategies.now in
    let w = c.args.world.now in
    let l : c.parties.p < w.deal.graph.n = rw (← c.deal.ensures.value) (omega (arith, c.parties-test.true, c.n-p-end.ensures)) in
    if_err _ (turns_stop gives w c.turn.new.world (range_stops gives turn w c.parties.world c.turn.new.world w.deal.graph.n c.parties.p c.parties.invariant
    (λ x s v. turn_steps x v) l (λ a s v. turn_run (answering_cast w a) v s) c.in_err-turn.ensures.err))

pub parties-preserved : goal.parties-preserved
parties-preserved g c =
    let w = c.args.world.now in
    let l : c.parties.p < w.deal.graph.n = rw (← c.deal.ensures.value) (omega (arith, c.parties-test.true, c.n-p-end.ensures)) in
    range_on (g.A.Strategies.gives c.args.strategies.now) turn w c.parties.world c.turn.new.world w.deal.graph.n c.parties.p c.parties.invariant l
    c.in_ok-turn.ensures.ok

pub returns-clause-ok : goal.returns-clause-ok
returns-clause-ok g c =
    let gives = g.A.Strategies.gives c.args.strategies.now in
    let w = c.args.world.now in
    let l : w.deal.graph.n ≤ c.parties.p = rw (← c.deal.ensures.value) (omega (arith, c.parties-test.false, c.n-p-end.ensures)) in
    turns_are gives w c.parties.world (range_done gives turn w c.parties.world w.deal.graph.n c.parties.p l c.parties.invariant)
