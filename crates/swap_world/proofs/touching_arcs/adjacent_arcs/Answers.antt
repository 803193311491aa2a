use Rattle.std.proofs.Common.{ℕ, Bool, ◌==◌, ◌||◌, ◌∙◌, ap, sym}
use Rattle.swap_digraph.specs.Deal.{party, counterparty}
use Rattle.swap_digraph.proofs.Ranges.{filter_on, filter_off}
use Rattle.swap_world.proofs.touching_arcs.adjacent_arcs.Goals as goal
use Rattle.swap_world.proofs.touching_arcs.adjacent_arcs.Goals.{then-is_adjacent+in_ok-push, else-is_adjacent}

pub arcs-preserved : goal.arcs-preserved
arcs-preserved c =
    let d = c.args.deal.now in
    let test : ℕ → Bool = λ a. (c.args.p == party d a) || (c.args.p == counterparty d a) in
    elim c.if-is_adjacent.branch [
      | then-is_adjacent+in_ok-push w ↦
          filter_on test c.arcs.arc c.arcs.near.items c.if-is_adjacent.near.items
          (sym c.is_adjacent.ensures ∙ w.if-is_adjacent.true) (ap (λ v. v.items) w.near-is ∙ w.in_ok-push.ensures.items) c.arcs.invariant
      | else-is_adjacent w ↦ ap (λ v. v.items) w.near-is
          ∙ filter_off test c.arcs.arc c.arcs.near.items (sym c.is_adjacent.ensures ∙ w.if-is_adjacent.false) c.arcs.invariant
    ]
