use Rattle.std.proofs.Common.{◌∙◌, ap, sym}
use Rattle.swap_digraph.proofs.Ranges.{filter_on, filter_off}
use Rattle.digraph_check.specs.Tree.{is_entered}
use Rattle.digraph_check.proofs.search.entered_parties.Goals as goal
use Rattle.digraph_check.proofs.search.entered_parties.Goals.{then-is_entered+in_ok-push, else-is_entered}

pub loop-v-preserved : goal.loop-v-preserved
loop-v-preserved c =
    elim c.if-is_entered.branch [
      | then-is_entered+in_ok-push w ↦ filter_on (is_entered c.args.tree.now) c.loop-v.v c.loop-v.parties.items c.if-is_entered.parties.items
          (sym c.is_entered.ensures ∙ w.if-is_entered.true) (ap (λ v. v.items) w.parties-is ∙ w.in_ok-push.ensures.items) c.loop-v.invariant
      | else-is_entered w ↦ ap (λ v. v.items) w.parties-is
          ∙ filter_off (is_entered c.args.tree.now) c.loop-v.v c.loop-v.parties.items (sym c.is_entered.ensures
          ∙ w.if-is_entered.false) c.loop-v.invariant
    ]
