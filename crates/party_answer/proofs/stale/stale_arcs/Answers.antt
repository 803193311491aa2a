use Rattle.std.proofs.Common.{◌∙◌, ap, sym}
use Rattle.swap_digraph.proofs.Ranges.{filter_on, filter_off}
use Rattle.history_index.specs.Indexes.{all_entries}
use Rattle.party_answer.specs.Stale.{is_stale}
use Rattle.party_answer.proofs.stale.stale_arcs.Goals as goal
use Rattle.party_answer.proofs.stale.stale_arcs.Goals.{then-is_stale+in_ok-push, else-is_stale}

pub arcs-preserved : goal.arcs-preserved
arcs-preserved c =
    let test = is_stale c.args.deal.now c.args.me (all_entries c.args.known.now) c.args.seen.now in
    elim c.if-is_stale.branch [
      | then-is_stale+in_ok-push w ↦
          filter_on test c.arcs.arc c.arcs.stale.items c.if-is_stale.stale.items
          (sym c.is_stale.ensures ∙ w.if-is_stale.true) (ap (λ v. v.items) w.stale-is ∙ w.in_ok-push.ensures.items) c.arcs.invariant
      | else-is_stale w ↦ ap (λ v. v.items) w.stale-is
          ∙ filter_off test c.arcs.arc c.arcs.stale.items (sym c.is_stale.ensures ∙ w.if-is_stale.false) c.arcs.invariant
    ]
