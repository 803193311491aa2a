use Rattle.std.proofs.Common.{◌<◌, ◌≤◌, [], length, fold, take, arith, refl, sym, ap, ◌∙◌, subst}
use Rattle.std.specs.List.{range_with_len}
use Rattle.swap_many.specs.Fair.{kept_turns}
use Rattle.swap_world.specs.TouchingArcs.{all_adjacent}
use Rattle.swap_many.proofs.Values.{item_is}
use Rattle.swap_many.proofs.Gone.{deal_gone, gone_as, on_gone, stopped_as}
use Rattle.swap_many.proofs.Gone.{range_on, range_done, range_stops}
use Rattle.swap_world.proofs.Ways.{if_err}
use Rattle.swap_many.proofs.Turning as lemmas
use Rattle.swap_many.proofs.fair.all_turns.Goals as goal

pub bounds-near-place : goal.bounds-near-place
bounds-near-place g c =
    let l : c.each.swap < length c.args.worlds.now.worlds = omega (arith, c.each-test.true, c.swaps-swap-end.ensures) in
    subst (λ n. c.each.swap < n) (sym c.requires.near.one_each) l

pub turns-requires-clause-near : goal.turns-requires-clause-near
turns-requires-clause-near g c =
    let gives = g.A.Strategies.gives c.args.strategies.now in
    let w = c.args.worlds.now in
    let near = c.args.near.now in
    let l : c.each.swap < length w.worlds = omega (arith, c.each-test.true, c.swaps-swap-end.ensures) in
    let there = item_is near c.each.swap [] c.index-near-place.result (subst (λ n. c.each.swap < n) (sym c.requires.near.one_each) l) c.index-near-place.is in
    c.as_slice.ensures ∙ (there ∙ (c.requires.near.each c.each.swap l
    ∙ ap all_adjacent (sym (deal_gone gives (λ m z. fold (kept_turns m) z (take c.each.swap (range_with_len 0 (length w.worlds)))) w c.each.worlds
    c.each.swap c.each.invariant))))

pub turns-requires-clause-on : goal.turns-requires-clause-on
turns-requires-clause-on g c =
    let gives = g.A.Strategies.gives c.args.strategies.now in
    let w = c.args.worlds.now in
    on_gone gives (λ m z. fold (kept_turns m) z (take c.each.swap (range_with_len 0 (length w.worlds)))) w c.each.worlds _ c.each.invariant c.requires.on

pub returns-in_err-turns-clause-err : goal.returns-in_err-turns-clause-err
returns-in_err-turns-clause-err g c =
    let gives = g.A.Strategies.gives c.args.strategies.now in
    let w = c.args.worlds.now in
    let l : c.each.swap < length w.worlds = omega (arith, c.each-test.true, c.swaps-swap-end.ensures) in
    if_err _ (stopped_as gives (λ m z. fold (kept_turns m) z (range_with_len 0 (length w.worlds)))
    (λ m z. fold (kept_turns m) z (range_with_len 0 m.swaps)) w c.turns.new.worlds (λ a. refl)
    (range_stops gives (kept_turns) w c.each.worlds c.turns.new.worlds (length w.worlds) c.each.swap c.each.invariant l c.requires.on.ready
    (λ x lt. lemmas.turns_lead w c.requires.on.ready x lt) c.in_err-turns.ensures.err))

pub each-preserved : goal.each-preserved
each-preserved g c =
    let gives = g.A.Strategies.gives c.args.strategies.now in
    let w = c.args.worlds.now in
    let l : c.each.swap < length w.worlds = omega (arith, c.each-test.true, c.swaps-swap-end.ensures) in
    range_on gives (kept_turns) w c.each.worlds c.turns.new.worlds (length w.worlds) c.each.swap c.each.invariant l c.in_ok-turns.ensures.ok

pub returns-clause-ok : goal.returns-clause-ok
returns-clause-ok g c =
    let gives = g.A.Strategies.gives c.args.strategies.now in
    let w = c.args.worlds.now in
    let l : length w.worlds ≤ c.each.swap = omega (arith, c.each-test.false, c.swaps-swap-end.ensures) in
    gone_as gives (λ m z. fold (kept_turns m) z (range_with_len 0 (length w.worlds))) (λ m z. fold (kept_turns m) z (range_with_len 0 m.swaps)) w
    c.each.worlds (λ a. refl) (range_done gives (kept_turns) w c.each.worlds (length w.worlds) c.each.swap l c.each.invariant)
