use Rattle.std.proofs.Common.{◌∙◌, ◌&&◌, Bool, ap, ap₂, sym, arith}
use Rattle.swap_digraph.proofs.Ranges.{filter_on, filter_off}
use Rattle.digraph_check.specs.Reach.{reaches}
use Rattle.swap_clear.proofs.group_digraph.strong_component.Goals as goal
use Rattle.swap_clear.proofs.group_digraph.strong_component.Goals.{then-are_together+in_ok-push, else-are_together}

pub loop-w-preserved : goal.loop-w-preserved
loop-w-preserved c =
    let there = c.requires.rows.tells c.args.v c.loop-w.w c.requires.v in
    let back = c.requires.rows.tells c.loop-w.w c.args.v (omega arith) in
    let is = sym (c.are_together.ensures ∙ ap₂ (λ (a b : Bool). a && b) there back) in
    elim c.if-are_together.branch [
      | then-are_together+in_ok-push w ↦ filter_on (λ w. reaches c.args.graph.now c.args.v w && reaches c.args.graph.now w c.args.v) c.loop-w.w
          c.loop-w.parties.items c.if-are_together.parties.items (is ∙ w.if-are_together.true)
          (ap (λ v. v.items) w.parties-is ∙ w.in_ok-push.ensures.items) c.loop-w.invariant
      | else-are_together w ↦ ap (λ v. v.items) w.parties-is
          ∙ filter_off (λ w. reaches c.args.graph.now c.args.v w && reaches c.args.graph.now w c.args.v) c.loop-w.w c.loop-w.parties.items
          (is ∙ w.if-are_together.false) c.loop-w.invariant
    ]
