use Rattle.std.proofs.Common.{◌==◌, ◌&&◌, ◌∙◌, ap, List, ne_eqb, arith}
use Rattle.std.specs.Int.{bit_at}
use Rattle.std.specs.List.{list_any}
use Rattle.swap_digraph.specs.declared.arc_ends.ArcEnds.{ArcEnds}
use Rattle.leader_check.proofs.Passes.{head_on, head_off, any_ends, to_below}
use Rattle.leader_check.proofs.cycle.heads.Goals as goal
use Rattle.leader_check.proofs.cycle.heads.Goals.{then-arc-u, else-arc-u}

pub loop-arc-preserved : goal.loop-arc-preserved
loop-arc-preserved c w =
    let small = to_below c.args.graph.now c.arcs-arc-items.result.now c.loop-arc.arc-index c.requires.ends c.arcs-arc-items.ensures c.loop-arc-test.true in
    elim c.if-arc-u.branch [
      | then-arc-u b ↦ rw b.bits-is (head_on c.arcs-arc-items.result.now c.loop-arc.arc-index (record {
        from = 0;
        to =
            0;
      }) c.args.u c.loop-arc.bits w _ c.loop-arc-test.true (omega arith) b.if-arc-u.true (c.loop-arc.invariant w))
      | else-arc-u b ↦ rw b.bits-is (head_off c.arcs-arc-items.result.now c.loop-arc.arc-index (record {
        from = 0;
        to =
            0;
      }) c.args.u c.loop-arc.bits w _ c.loop-arc-test.true (ne_eqb _ _ b.if-arc-u.false) (c.loop-arc.invariant w))
    ]

pub returns : goal.returns
returns c w =
    any_ends (λ a. (a.from == c.args.u) && (a.to == w)) c.arcs-arc-items.result.now c.loop-arc.arc-index (bit_at c.loop-arc.bits w == 1) _
    c.loop-arc-test.false (c.loop-arc.invariant w)
    ∙ ap (λ (xs : List ArcEnds). list_any (λ a. (a.from == c.args.u) && (a.to == w)) xs) c.arcs-arc-items.ensures
