use Rattle.std.proofs.Common.{◌==◌, ◌&&◌, ◌∙◌, ap, List, ℕ, get_or, slice_index, arith}
use Rattle.std.specs.List.{list_any}
use Rattle.std.specs.Int.Bits.{bit_or}
use Rattle.std.proofs.lemmas.Grind.{get_or_default_zero}
use Rattle.std.proofs.lemmas.List.{length-set}
use Rattle.swap_digraph.specs.declared.arc_ends.ArcEnds.{ArcEnds}
use Rattle.leader_check.specs.Cycles.{has_bit, enters_led}
use Rattle.leader_check.proofs.Passes.{unite, any_ends, from_below}
use Rattle.leader_check.proofs.cycle.leads_each.Goals as goal

pub loop-arc-preserved : goal.loop-arc-preserved
loop-arc-preserved c =
    let place = from_below c.args.graph.now c.arcs-arc-items.result.now c.loop-arc.arc-index c.requires.ends c.arcs-arc-items.ensures c.loop-arc-test.true in
    let s = c.loop-arc.invariant.size in
    record {
      size = length-set _ _ _ ∙ s;
      leads = λ v u.
          unite (λ a. a.from) (λ a. slice_index c.args.row.now a.to) c.arcs-arc-items.result.now c.loop-arc.arc-index (record {
            from = 0;
            to =
                0;
          }) c.loop-arc.leads.items _ v u _ c.loop-arc-test.true (omega (arith, s, place))
          (ap (λ (x : ℕ). bit_or x (slice_index c.args.row.now (get_or c.arcs-arc-items.result.now c.loop-arc.arc-index (record {
            from = 0;
            to =
                0;
          })).to)) (c.index_mut.ensures.value ∙ get_or_default_zero c.loop-arc.leads.items _ _ (omega (arith, s, place))))
          (c.loop-arc.invariant.leads v u);
    }

pub returns-clause-leads : goal.returns-clause-leads
unfolding enters_led
returns-clause-leads c v u lt =
    any_ends (λ a. (a.from == u) && has_bit c.args.row.now v a.to) c.arcs-arc-items.result.now c.loop-arc.arc-index (has_bit c.loop-arc.leads.items v u)
    _ c.loop-arc-test.false (c.loop-arc.invariant.leads v u)
    ∙ ap (λ (xs : List ArcEnds). list_any (λ a. (a.from == u) && has_bit c.args.row.now v a.to) xs) c.arcs-arc-items.ensures
