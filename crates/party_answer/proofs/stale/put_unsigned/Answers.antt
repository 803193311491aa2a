use Rattle.std.proofs.Common.{ℕ, Bool, ◌∙◌, ap, is_none, sym}
use Rattle.party_wallet.specs.Value.{signed_hashkey}
use Rattle.party_answer.proofs.Passing.{after_on, after_off}
use Rattle.party_answer.proofs.stale.put_unsigned.Goals as goal
use Rattle.party_answer.proofs.stale.put_unsigned.Goals.{then-is_unsigned+in_ok-push, else-is_unsigned}

pub loop-lock-preserved : goal.loop-lock-preserved
loop-lock-preserved c =
    let test : ℕ → Bool = λ i. is_none (signed_hashkey c.args.kept.now.keys i) in
    elim c.if-is_unsigned.branch [
      | then-is_unsigned+in_ok-push w ↦
          after_on test c.loop-lock.lock c.args.locks.now.items c.loop-lock.locks.items c.if-is_unsigned.locks.items
          (sym c.is_unsigned.ensures ∙ w.if-is_unsigned.true) (ap (λ v. v.items) w.locks-is ∙ w.in_ok-push.ensures.items) c.loop-lock.invariant
      | else-is_unsigned w ↦ ap (λ v. v.items) w.locks-is
          ∙ after_off test c.loop-lock.lock c.args.locks.now.items c.loop-lock.locks.items (sym c.is_unsigned.ensures ∙ w.if-is_unsigned.false)
          c.loop-lock.invariant
    ]
