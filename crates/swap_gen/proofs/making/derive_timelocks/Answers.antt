use Rattle.std.proofs.Common.{◌∙◌, ◌<◌, ap, List, ℕ, ◌++◌, ◌∷◌, [], length, slice_index, get_or, arith}
use Rattle.time_bounds.specs.Times as times
use Rattle.swap_digraph.specs.declared.arc_ends.ArcEnds.{ArcEnds}
use Rattle.swap_digraph.specs.Deal.{counterparty}
use Rattle.swap_digraph.proofs.Ranges.{map_more}
use Rattle.swap_gen.specs.Made.{arc_timelock}
use Rattle.swap_gen.proofs.Places.{no_arc}
use Rattle.swap_gen.proofs.making.derive_timelocks.Goals as goal

pub loop-arc-preserved : goal.loop-arc-preserved
loop-arc-preserved c =
    let d = c.args.deal.now in
    let a = c.loop-arc.arc-index in
    let size = ap length c.arcs-arc-items.ensures in
    let lt : a < length d.graph.arcs = omega (arith, size, c.loop-arc-test.true) in
    map_more (arc_timelock d) a c.loop-arc.timelocks.items c.push.new.self.items
    (c.in_ok-push.ensures.items ∙ ap (λ (x : ℕ). c.loop-arc.timelocks.items ++ x ∷ []) (c.timelock.ensures
    ∙ ap (λ (xs : List ArcEnds). times.timelock d.start d.delta d.bound (slice_index c.args.dists.now (get_or xs a no_arc).to)) c.arcs-arc-items.ensures
    ∙ ap (times.timelock d.start d.delta d.bound) (c.requires.dist (counterparty d a) (c.requires.proposed.ends.to a lt)))) c.loop-arc.invariant
