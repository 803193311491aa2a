use Rattle.std.proofs.Common.{arith, sym, ◌∙◌}
use Rattle.std.proofs.lemmas.Bool.{false≢true}
use Rattle.due_calls.proofs.ArcMembers.{one_each}
use Rattle.due_calls.proofs.refund.is_due_refund.Goals as goal
use Rattle.due_calls.proofs.refund.is_due_refund.Goals.{then-is_held, else-is_held}

pub has_expired-requires-clause-arc : goal.has_expired-requires-clause-arc
has_expired-requires-clause-arc g c =
    let one = one_each g.F.Facts.terms c.args.deal.now c.args.known.now c.requires.known in
    elim c.if-is_held.branch [
      | then-is_held w ↦ (let within = c.is_held.ensures.within w.if-is_held.true in omega (arith, one, within))
      | else-is_held w ↦ absurd (false≢true (sym w.if-is_held.false ∙ (sym w.value-is ∙ c.if-not-is_triggered.true)))
    ]
