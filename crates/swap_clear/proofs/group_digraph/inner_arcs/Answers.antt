use Rattle.std.proofs.Common.{◌∙◌, ◌&&◌, get_or, List, ap, sym}
use Rattle.swap_digraph.specs.declared.arc_ends.ArcEnds.{ArcEnds}
use Rattle.swap_digraph.specs.Graph.{ends, is_listed}
use Rattle.swap_digraph.proofs.Ranges.{filter_on, filter_off}
use Rattle.swap_clear.proofs.group_digraph.inner_arcs.Goals as goal
use Rattle.swap_clear.proofs.group_digraph.inner_arcs.Goals.{then-set_contains_ends+in_ok-push, else-set_contains_ends}

pub loop-number-preserved : goal.loop-number-preserved
loop-number-preserved c =
    let same = ap (λ (xs : List ArcEnds). is_listed (get_or xs c.loop-number.number (record { from = 0; to = 0 })).from c.args.set.now
    && is_listed (get_or xs c.loop-number.number (record { from = 0; to = 0 })).to c.args.set.now) c.arcs-arc-items.ensures in
    let is = sym (c.set_contains_ends.ensures ∙ same) in
    elim c.if-set_contains_ends.branch [
      | then-set_contains_ends+in_ok-push w ↦
          filter_on (λ a. is_listed (ends c.args.graph.now a).from c.args.set.now && is_listed (ends c.args.graph.now a).to c.args.set.now)
          c.loop-number.number c.loop-number.numbers.items c.if-set_contains_ends.numbers.items (is ∙ w.if-set_contains_ends.true)
          (ap (λ v. v.items) w.numbers-is ∙ w.in_ok-push.ensures.items) c.loop-number.invariant
      | else-set_contains_ends w ↦ ap (λ v. v.items) w.numbers-is
          ∙ filter_off (λ a. is_listed (ends c.args.graph.now a).from c.args.set.now && is_listed (ends c.args.graph.now a).to c.args.set.now)
          c.loop-number.number c.loop-number.numbers.items (is ∙ w.if-set_contains_ends.false) c.loop-number.invariant
    ]
