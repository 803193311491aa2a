use Rattle.std.proofs.Common.{◌≡◌, get_or, ◌==◌, ◌∙◌, ap, cond, List, max, slice_index, arith}
use Rattle.swap_base.specs.Lists.{greatest}
use Rattle.swap_digraph.specs.declared.arc_ends.ArcEnds.{ArcEnds}
use Rattle.std.proofs.lemmas.Grind.{common_steps, get_or_default_zero}
use Rattle.std.proofs.lemmas.List.{length-set}
use Rattle.leader_check.proofs.Passes.{raise, from_below}
use Rattle.leader_check.proofs.Loops.{greatest_is_all}
use Rattle.leader_check.specs.Distance.{greatest_next_value}
use Rattle.leader_check.proofs.distances.most_after_each.Goals as goal

pub loop-arc-preserved : goal.loop-arc-preserved
loop-arc-preserved c =
    let place = from_below c.args.graph.now c.arcs-arc-items.result.now c.loop-arc.arc-index c.requires.ends c.arcs-arc-items.ensures c.loop-arc-test.true in
    let s = c.loop-arc.invariant.size in
    let old = c.index.ensures ∙ get_or_default_zero c.loop-arc.most.items _ c.index.result.now (omega (arith, s, place)) in
    let greater : c.max.result ≡ max (slice_index c.loop-arc.most.items
    (get_or c.arcs-arc-items.result.now c.loop-arc.arc-index (record { from = 0; to = 0 })).from)
    (slice_index c.args.row.now (get_or c.arcs-arc-items.result.now c.loop-arc.arc-index (record { from = 0; to = 0 })).to) =
    grind (arith, common_steps, old, c.max.ensures) in
    record {
      size = length-set _ _ _ ∙ s;
      most = λ v.
          raise (λ a. a.from) (λ a. slice_index c.args.row.now a.to) c.arcs-arc-items.result.now c.loop-arc.arc-index (record {
            from = 0;
            to =
                0;
          }) c.loop-arc.most.items c.max.result v _ c.loop-arc-test.true (omega (arith, s, place)) greater
          (c.loop-arc.invariant.most v);
    }

pub returns-clause-most : goal.returns-clause-most
unfolding greatest_next_value
returns-clause-most c v lt =
    greatest_is_all (λ a. cond (a.from == v) (slice_index c.args.row.now a.to) 0) c.arcs-arc-items.result.now c.loop-arc.arc-index
    (slice_index c.loop-arc.most.items v) _ c.loop-arc-test.false (c.loop-arc.invariant.most v)
    ∙ ap (λ (xs : List ArcEnds). greatest (λ a. cond (a.from == v) (slice_index c.args.row.now a.to) 0) xs) c.arcs-arc-items.ensures
