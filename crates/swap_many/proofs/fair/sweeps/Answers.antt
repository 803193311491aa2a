use Rattle.std.proofs.Common.{◌<◌, ◌≤◌, length, fold, take, arith}
use Rattle.std.specs.List.{range_with_len}
use Rattle.swap_many.specs.Fair.{kept_swap_sweeps, kept_sweeps}
use Rattle.swap_many.specs.Value.{many_kept, made_setup}
use Rattle.swap_many.proofs.Gone.{gone_as, on_gone}
use Rattle.swap_many.proofs.Gone.{range_on, range_done}
use Rattle.swap_many.proofs.Turning as lemmas
use Rattle.swap_many.proofs.fair.sweeps.Goals as goal

pub sweep_all-requires-clause-on : goal.sweep_all-requires-clause-on
sweep_all-requires-clause-on g c =
    let gives = g.A.Strategies.gives c.args.strategies.now in
    let w = c.args.worlds.now in
    on_gone gives (λ m z. fold (kept_swap_sweeps m) z (take c.each.swap (range_with_len 0 (length w.worlds)))) w c.each.worlds _ c.each.invariant c.requires.on

pub each-preserved : goal.each-preserved
each-preserved g c =
    let gives = g.A.Strategies.gives c.args.strategies.now in
    let w = c.args.worlds.now in
    let l : c.each.swap < length w.worlds = omega (arith, c.each-test.true, c.swaps-swap-end.ensures) in
    range_on gives kept_swap_sweeps w c.each.worlds c.sweep_all.new.worlds (length w.worlds) c.each.swap c.each.invariant l c.sweep_all.ensures

pub returns : goal.returns
returns g c =
    let gives = g.A.Strategies.gives c.args.strategies.now in
    let w = c.args.worlds.now in
    let l : length w.worlds ≤ c.each.swap = omega (arith, c.each-test.false, c.swaps-swap-end.ensures) in
    gone_as gives (λ m z. fold (kept_swap_sweeps m) z (range_with_len 0 (length w.worlds))) kept_sweeps w c.each.worlds
    (λ a. lemmas.sweeps_are (made_setup w a) (many_kept w))
    (range_done gives kept_swap_sweeps w c.each.worlds (length w.worlds) c.each.swap l c.each.invariant)
