use Rattle.std.proofs.Common.{◌∙◌, ap, ◌==◌, eq-eqb}
use Rattle.std.proofs.lemmas.Bool.{ne_eqb}
use Rattle.swap_digraph.specs.Graph.{resolve_all_ends}
use Rattle.swap_digraph.proofs.Ranges.{filter_on, filter_off}
use Rattle.swap_digraph.proofs.digraph.entering_arcs.Goals as goal
use Rattle.swap_digraph.proofs.digraph.entering_arcs.Goals.{then-arc-p+in_ok-push, else-arc-p}

pub loop-number-preserved : goal.loop-number-preserved
loop-number-preserved c =
    elim c.if-arc-p.branch [
      | then-arc-p+in_ok-push w ↦ filter_on (λ a. (resolve_all_ends c.args.arcs.now a).to == c.args.p) c.loop-number.number c.loop-number.numbers.items
          c.if-arc-p.numbers.items (eq-eqb _ _ w.if-arc-p.true) (ap (λ v. v.items) w.numbers-is ∙ w.in_ok-push.ensures.items) c.loop-number.invariant
      | else-arc-p w ↦ ap (λ v. v.items) w.numbers-is
          ∙ filter_off (λ a. (resolve_all_ends c.args.arcs.now a).to == c.args.p) c.loop-number.number c.loop-number.numbers.items (ne_eqb _ _ w.if-arc-p.false)
          c.loop-number.invariant
    ]
