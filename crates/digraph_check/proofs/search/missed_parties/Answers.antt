use Rattle.std.proofs.Common.{◌∙◌, ap, sym, not}
use Rattle.swap_digraph.proofs.Ranges.{filter_on, filter_off}
use Rattle.digraph_check.specs.Tree.{is_entered}
use Rattle.digraph_check.proofs.search.missed_parties.Goals as goal
use Rattle.digraph_check.proofs.search.missed_parties.Goals.{then-not-is_entered+in_ok-push, else-not-is_entered}

pub loop-v-preserved : goal.loop-v-preserved
loop-v-preserved c =
    elim c.if-not-is_entered.branch [
      | then-not-is_entered+in_ok-push w ↦
          filter_on (λ v. not (is_entered c.args.tree.now v)) c.loop-v.v c.loop-v.parties.items c.if-not-is_entered.parties.items
          (ap not (sym c.is_entered.ensures ∙ w.if-not-is_entered.true)) (ap (λ v. v.items) w.parties-is
          ∙ w.in_ok-push.ensures.items) c.loop-v.invariant
      | else-not-is_entered w ↦ ap (λ v. v.items) w.parties-is
          ∙ filter_off (λ v. not (is_entered c.args.tree.now v)) c.loop-v.v c.loop-v.parties.items (ap not (sym c.is_entered.ensures
          ∙ w.if-not-is_entered.false)) c.loop-v.invariant
    ]
