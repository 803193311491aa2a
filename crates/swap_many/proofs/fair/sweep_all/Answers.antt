use Rattle.std.proofs.Common.{◌<◌, ◌≤◌, length, fold, refl}
use Rattle.std.specs.List.{range_with_len}
use Rattle.swap_many.specs.Fair.{swept_kept, kept_swap_sweeps}
use Rattle.swap_many.specs.Value.{nth_world}
use Rattle.swap_many.proofs.Gone.{gone_as}
use Rattle.swap_many.proofs.Gone.{range_on, range_done}
use Rattle.swap_many.proofs.fair.sweep_all.Goals as goal

pub arcs-preserved : goal.arcs-preserved
arcs-preserved g c =
    let gives = g.A.Strategies.gives c.args.strategies.now in
    let w = c.args.worlds.now in
    let l : c.arcs.arc < length (nth_world w c.args.swap).deal.graph.arcs = rw (← c.deal.ensures.value, ← c.arcs-2.ensures) c.arcs-test.true in
    range_on gives (swept_kept c.args.swap) w c.arcs.worlds c.sweep.new.self (length
    (nth_world w c.args.swap).deal.graph.arcs) c.arcs.arc c.arcs.invariant
    l c.sweep.ensures.gone

pub returns : goal.returns
returns g c =
    let gives = g.A.Strategies.gives c.args.strategies.now in
    let w = c.args.worlds.now in
    let l : length (nth_world w c.args.swap).deal.graph.arcs ≤ c.arcs.arc = rw (← c.deal.ensures.value, ← c.arcs-2.ensures) c.arcs-test.false in
    gone_as gives (λ m z. fold (swept_kept c.args.swap m) z (range_with_len 0 (length (nth_world w c.args.swap).deal.graph.arcs)))
    (λ m z. kept_swap_sweeps m z c.args.swap) w c.arcs.worlds (λ a. refl)
    (range_done gives (swept_kept c.args.swap) w c.arcs.worlds (length (nth_world w c.args.swap).deal.graph.arcs) c.arcs.arc l c.arcs.invariant)
