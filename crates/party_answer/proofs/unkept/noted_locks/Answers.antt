use Rattle.std.proofs.Common.{ℕ, Bool, ◌∙◌, ap, sym}
use Rattle.swap_digraph.specs.Graph.{is_listed}
use Rattle.swap_digraph.proofs.Ranges.{filter_on, filter_off}
use Rattle.party_answer.proofs.unkept.noted_locks.Goals as goal
use Rattle.party_answer.proofs.unkept.noted_locks.Goals.{then-is_listed+in_ok-push, else-is_listed}

pub loop-lock-preserved : goal.loop-lock-preserved
loop-lock-preserved c =
    let test : ℕ → Bool = λ i. is_listed i c.args.noted.now in
    elim c.if-is_listed.branch [
      | then-is_listed+in_ok-push w ↦
          filter_on test c.loop-lock.lock c.loop-lock.locks.items c.if-is_listed.locks.items
          (sym c.is_listed.ensures ∙ w.if-is_listed.true) (ap (λ v. v.items) w.locks-is ∙ w.in_ok-push.ensures.items) c.loop-lock.invariant
      | else-is_listed w ↦ ap (λ v. v.items) w.locks-is
          ∙ filter_off test c.loop-lock.lock c.loop-lock.locks.items (sym c.is_listed.ensures ∙ w.if-is_listed.false) c.loop-lock.invariant
    ]
