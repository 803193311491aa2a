use Rattle.std.proofs.Common.{◌∙◌, ap, sym, List}
use Rattle.swap_digraph.specs.declared.arc_ends.ArcEnds.{ArcEnds}
use Rattle.swap_digraph.proofs.Ranges.{filter_on, filter_off}
use Rattle.swap_gen.proofs.Places.{touches_at}
use Rattle.swap_gen.proofs.generator.touching.Goals as goal
use Rattle.swap_gen.proofs.generator.touching.Goals.{then-touches+in_ok-push, else-touches}

pub loop-number-preserved : goal.loop-number-preserved
loop-number-preserved c =
    let read = ap (λ (xs : List ArcEnds). touches_at c.args.p xs c.loop-number.number) (sym c.arcs-arc-items.ensures) in
    elim c.if-touches.branch [
      | then-touches+in_ok-push w ↦ filter_on (touches_at c.args.p c.args.graph.now.arcs) c.loop-number.number c.loop-number.numbers.items
          c.if-touches.numbers.items (read ∙ sym c.touches.ensures ∙ w.if-touches.true) (ap (λ v. v.items) w.numbers-is
          ∙ w.in_ok-push.ensures.items) c.loop-number.invariant
      | else-touches w ↦ ap (λ v. v.items) w.numbers-is
          ∙ filter_off (touches_at c.args.p c.args.graph.now.arcs) c.loop-number.number c.loop-number.numbers.items
          (read ∙ sym c.touches.ensures ∙ w.if-touches.false) c.loop-number.invariant
    ]
