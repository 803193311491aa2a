use Rattle.std.proofs.Common.{eq-eqb, eqb-true, ℕ, Bool, ◌==◌, ◌∙◌, slice_index_or, ap}
use Rattle.ledger_core.proofs.History.{not-true}
use Rattle.swap_digraph.proofs.Ranges.{filter_on, filter_off}
use Rattle.swap_many.specs.Chains.{nowhere}
use Rattle.swap_many.proofs.opening.stands.Goals as goal
use Rattle.swap_many.proofs.opening.stands.Goals.{then-places-arc+in_ok-push, else-places-arc}

pub arcs-preserved : goal.arcs-preserved
arcs-preserved c =
    let ps = c.args.places.now in
    let test : ℕ → Bool = λ a. (slice_index_or ps a nowhere).chain == c.args.chain in
    elim c.if-places-arc.branch [
      | then-places-arc+in_ok-push w ↦
          let one = ap (λ v. v.items) w.on-is ∙ w.in_ok-push.ensures.items in
          filter_on test c.arcs.arc c.arcs.on.items c.if-places-arc.on.items (eq-eqb _ _ w.if-places-arc.true) one c.arcs.invariant
      | else-places-arc w ↦
          let off = not-true (test c.arcs.arc) (λ e. w.if-places-arc.false (eqb-true _ _ e)) in
          ap (λ v. v.items) w.on-is ∙ filter_off test c.arcs.arc c.arcs.on.items off c.arcs.invariant
    ]
