use Rattle.std.proofs.Common.{◌∙◌, ap, sym}
use Rattle.swap_digraph.proofs.Ranges.{filter_on, filter_off}
use Rattle.digraph_check.specs.Reach.{reaches}
use Rattle.swap_clear.proofs.left_out.reachable_parties.Goals as goal
use Rattle.swap_clear.proofs.left_out.reachable_parties.Goals.{then-reaches+in_ok-push, else-reaches}

pub loop-w-preserved : goal.loop-w-preserved
loop-w-preserved c =
    let is = sym (c.requires.rows.tells c.args.v c.loop-w.w c.requires.v) ∙ sym c.reaches.ensures in
    elim c.if-reaches.branch [
      | then-reaches+in_ok-push w ↦ filter_on (reaches c.args.graph.now c.args.v) c.loop-w.w c.loop-w.parties.items c.if-reaches.parties.items
          (is ∙ w.if-reaches.true) (ap (λ v. v.items) w.parties-is ∙ w.in_ok-push.ensures.items) c.loop-w.invariant
      | else-reaches w ↦ ap (λ v. v.items) w.parties-is
          ∙ filter_off (reaches c.args.graph.now c.args.v) c.loop-w.w c.loop-w.parties.items (is ∙ w.if-reaches.false) c.loop-w.invariant
    ]
