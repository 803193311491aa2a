use Rattle.std.proofs.Common.{◌≡◌, sym, subst}
use Rattle.swap_run.specs.Fair.{repeat, ticks, turns}
use Rattle.swap_world.specs.TouchingArcs.{all_adjacent}
use Rattle.swap_world.proofs.Ways.{if_err}
use Rattle.swap_world.proofs.Gone.{deal_gone, goes_on_gone, held_gone}
use Rattle.swap_world.proofs.Finishes.{advance_cut, advance_ends, advance_stops, round_cut, round_ends, round_stops}
use Rattle.swap_world.proofs.fair.advance.Goals as goal

pub turns-requires-clause-near : goal.turns-requires-clause-near
turns-requires-clause-near g c =
    subst (λ d. c.args.near.now ≡ all_adjacent d) (sym (deal_gone (g.A.Strategies.gives c.args.strategies.now)
    (λ x s. repeat c.quiet_rounds-quiet.result (ticks x) s) c.args.world.now c.pass.new.world c.in_ok-pass.ensures.ok)) c.requires.near

pub turns-requires-clause-goes_on : goal.turns-requires-clause-goes_on
turns-requires-clause-goes_on g c =
    goes_on_gone (g.A.Strategies.gives c.args.strategies.now) (λ x s. repeat c.quiet_rounds-quiet.result (ticks x) s) c.args.world.now c.pass.new.world
    c.in_ok-pass.ensures.ok c.requires.goes_on

pub turns-requires-clause-held : goal.turns-requires-clause-held
turns-requires-clause-held g c =
    held_gone (g.A.Strategies.gives c.args.strategies.now) (λ x s. repeat c.quiet_rounds-quiet.result (ticks x) s) c.args.world.now c.pass.new.world _
    c.in_ok-pass.ensures.ok c.requires.held

pub ticks-requires : goal.ticks-requires
ticks-requires g c =
    let gives = g.A.Strategies.gives c.args.strategies.now in
    record {
      goes_on = goes_on_gone gives turns c.pass.new.world c.turns.new.world c.in_ok-turns.ensures.ok
          (goes_on_gone gives (λ x s. repeat c.quiet_rounds-quiet.result (ticks x) s) c.args.world.now c.pass.new.world c.in_ok-pass.ensures.ok
          c.requires.goes_on);
    }

pub returns-in_err-pass-clause-err : goal.returns-in_err-pass-clause-err
returns-in_err-pass-clause-err g c =
    let new = c.pass.new.world in
    let q = c.quiet_rounds-quiet.ensures in
    if_err _ (advance_cut (g.A.Strategies.gives c.args.strategies.now) c.args.world.now new new c.quiet_rounds-quiet.result q.skips c.args.most q.few
    c.requires.some c.in_err-pass.ensures.err)

pub returns-in_err-turns-clause-err : goal.returns-in_err-turns-clause-err
returns-in_err-turns-clause-err g c =
    let gives = g.A.Strategies.gives c.args.strategies.now in
    let mid = c.pass.new.world in
    let q = c.quiet_rounds-quiet.ensures in
    if_err _ (advance_stops gives c.args.world.now mid c.turns.new.world c.quiet_rounds-quiet.result q.skips c.args.most q.few c.requires.some
    c.in_ok-pass.ensures.ok (round_cut gives mid c.turns.new.world c.in_err-turns.ensures.err))

pub returns-in_err-ticks-clause-err : goal.returns-in_err-ticks-clause-err
returns-in_err-ticks-clause-err g c =
    let gives = g.A.Strategies.gives c.args.strategies.now in
    let mid = c.pass.new.world in
    let q = c.quiet_rounds-quiet.ensures in
    if_err _ (advance_stops gives c.args.world.now mid c.ticks.new.world c.quiet_rounds-quiet.result q.skips c.args.most q.few c.requires.some
    c.in_ok-pass.ensures.ok (round_stops gives mid c.turns.new.world c.ticks.new.world c.in_ok-turns.ensures.ok c.in_err-ticks.ensures.err))

pub returns-clause-ok : goal.returns-clause-ok
returns-clause-ok g c =
    let gives = g.A.Strategies.gives c.args.strategies.now in
    advance_ends gives c.args.world.now c.pass.new.world c.ticks.new.world c.quiet_rounds-quiet.result c.quiet_rounds-quiet.ensures.skips c.in_ok-pass.ensures.ok
    (round_ends gives c.pass.new.world c.turns.new.world c.ticks.new.world c.in_ok-turns.ensures.ok c.in_ok-ticks.ensures.ok)
