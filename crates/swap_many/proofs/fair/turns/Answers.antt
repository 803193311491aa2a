use Rattle.std.proofs.Common.{◌<◌, ◌≤◌, fold, take, arith, refl, sym, ap, ◌∙◌, subst}
use Rattle.std.specs.List.{range_with_len}
use Rattle.swap_many.specs.Fair.{kept_turn, kept_turns}
use Rattle.swap_many.specs.Value.{nth_world}
use Rattle.swap_run.specs.Fair.{adjacent_arcs}
use Rattle.swap_world.proofs.Finishes.{near_at, near_many}
use Rattle.swap_many.proofs.Gone.{deal_gone, gone_as, on_gone, stopped_as}
use Rattle.swap_many.proofs.Gone.{range_on, range_done, range_stops}
use Rattle.swap_world.proofs.Ways.{if_err}
use Rattle.swap_many.proofs.Turning as lemmas
use Rattle.swap_many.proofs.fair.turns.Goals as goal

pub bounds-near-place : goal.bounds-near-place
bounds-near-place g c =
    let w = c.args.worlds.now in
    let l : c.parties.p < (nth_world w c.args.swap).deal.graph.n = rw (← c.deal.ensures.value) (omega (arith, c.parties-test.true, c.n-p-end.ensures)) in
    subst (λ n. c.parties.p < n) (sym (near_many (nth_world w c.args.swap).deal c.args.near.now c.requires.near)) l

pub turn-requires-clause-near : goal.turn-requires-clause-near
turn-requires-clause-near g c =
    let gives = g.A.Strategies.gives c.args.strategies.now in
    let w = c.args.worlds.now in
    let l : c.parties.p < (nth_world w c.args.swap).deal.graph.n = rw (← c.deal.ensures.value) (omega (arith, c.parties-test.true, c.n-p-end.ensures)) in
    c.as_slice.ensures
    ∙ (near_at (nth_world w c.args.swap).deal c.args.near.now c.parties.p c.index-near-place.result c.requires.near l c.index-near-place.is
    ∙ ap (λ d. adjacent_arcs d c.parties.p) (sym (deal_gone gives (λ m z. fold (kept_turn c.args.swap m) z (take c.parties.p
    (range_with_len 0 ((nth_world w c.args.swap).deal.graph.n)))) w c.parties.worlds c.args.swap c.parties.invariant)))

pub turn-requires-clause-on : goal.turn-requires-clause-on
turn-requires-clause-on g c =
    let gives = g.A.Strategies.gives c.args.strategies.now in
    let w = c.args.worlds.now in
    on_gone gives (λ m z. fold (kept_turn c.args.swap m) z (take c.parties.p (range_with_len 0 ((nth_world w c.args.swap).deal.graph.n)))) w
    c.parties.worlds _ c.parties.invariant c.requires.on

pub returns-in_err-turn-clause-err : goal.returns-in_err-turn-clause-err
returns-in_err-turn-clause-err g c =
    let gives = g.A.Strategies.gives c.args.strategies.now in
    let w = c.args.worlds.now in
    let l : c.parties.p < (nth_world w c.args.swap).deal.graph.n = rw (← c.deal.ensures.value) (omega (arith, c.parties-test.true, c.n-p-end.ensures)) in
    if_err _ (stopped_as gives (λ m z. fold (kept_turn c.args.swap m) z (range_with_len 0 ((nth_world w c.args.swap).deal.graph.n)))
    (λ m z. kept_turns m z c.args.swap) w c.turn.new.worlds (λ a. refl)
    (range_stops gives (kept_turn c.args.swap) w c.parties.worlds c.turn.new.worlds ((nth_world w c.args.swap).deal.graph.n) c.parties.p
    c.parties.invariant l c.requires.on.ready (λ x lt. lemmas.turn_leads w c.requires.on.ready c.args.swap x
    (record { swap = c.requires.swap; party = lt })) c.in_err-turn.ensures.err))

pub parties-preserved : goal.parties-preserved
parties-preserved g c =
    let gives = g.A.Strategies.gives c.args.strategies.now in
    let w = c.args.worlds.now in
    let l : c.parties.p < (nth_world w c.args.swap).deal.graph.n = rw (← c.deal.ensures.value) (omega (arith, c.parties-test.true, c.n-p-end.ensures)) in
    range_on gives (kept_turn c.args.swap) w c.parties.worlds c.turn.new.worlds ((nth_world w c.args.swap).deal.graph.n) c.parties.p c.parties.invariant
    l c.in_ok-turn.ensures.ok

pub returns-clause-ok : goal.returns-clause-ok
returns-clause-ok g c =
    let gives = g.A.Strategies.gives c.args.strategies.now in
    let w = c.args.worlds.now in
    let l : (nth_world w c.args.swap).deal.graph.n ≤ c.parties.p = rw (← c.deal.ensures.value) (omega (arith, c.parties-test.false, c.n-p-end.ensures)) in
    gone_as gives (λ m z. fold (kept_turn c.args.swap m) z (range_with_len 0 ((nth_world w c.args.swap).deal.graph.n)))
    (λ m z. kept_turns m z c.args.swap) w c.parties.worlds (λ a. refl)
    (range_done gives (kept_turn c.args.swap) w c.parties.worlds ((nth_world w c.args.swap).deal.graph.n) c.parties.p l c.parties.invariant)
