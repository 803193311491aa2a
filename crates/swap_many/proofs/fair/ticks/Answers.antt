use Rattle.std.proofs.Common.{◌<◌, ◌≤◌, length, fold, arith, refl}
use Rattle.std.specs.List.{range_with_len}
use Rattle.swap_many.specs.Fair.{kept_chain_tick, kept_ticks}
use Rattle.swap_many.proofs.Gone.{gone_as, stopped_as}
use Rattle.swap_many.proofs.Gone.{range_on, range_done, range_stops}
use Rattle.swap_world.proofs.Ways.{if_err}
use Rattle.swap_many.proofs.Turning as lemmas
use Rattle.swap_many.proofs.fair.ticks.Goals as goal

pub returns-in_err-tick-clause-err : goal.returns-in_err-tick-clause-err
returns-in_err-tick-clause-err g c =
    let gives = g.A.Strategies.gives c.args.strategies.now in
    let w = c.args.worlds.now in
    let l : c.each.chain < length w.openings = omega (arith, c.each-test.true, c.chains-chain-end.ensures.openings) in
    if_err _ (stopped_as gives (λ m z. fold (kept_chain_tick m) z (range_with_len 0 (length w.openings))) (kept_ticks) w c.tick.new.self (λ a. refl)
    (range_stops gives (kept_chain_tick) w c.each.worlds c.tick.new.self (length w.openings) c.each.chain c.each.invariant l c.requires.on.ready
    (λ x lt. lemmas.tick_leads w c.requires.on.ready x lt) c.in_err-tick.ensures.err))

pub each-preserved : goal.each-preserved
each-preserved g c =
    let gives = g.A.Strategies.gives c.args.strategies.now in
    let w = c.args.worlds.now in
    let l : c.each.chain < length w.openings = omega (arith, c.each-test.true, c.chains-chain-end.ensures.openings) in
    range_on gives (kept_chain_tick) w c.each.worlds c.tick.new.self (length w.openings) c.each.chain c.each.invariant l c.in_ok-tick.ensures.ok

pub returns-clause-ok : goal.returns-clause-ok
returns-clause-ok g c =
    let gives = g.A.Strategies.gives c.args.strategies.now in
    let w = c.args.worlds.now in
    let l : length w.openings ≤ c.each.chain = omega (arith, c.each-test.false, c.chains-chain-end.ensures.openings) in
    gone_as gives (λ m z. fold (kept_chain_tick m) z (range_with_len 0 (length w.openings))) (kept_ticks) w c.each.worlds (λ a. refl)
    (range_done gives (kept_chain_tick) w c.each.worlds (length w.openings) c.each.chain l c.each.invariant)
