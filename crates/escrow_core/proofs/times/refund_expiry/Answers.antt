use Rattle.std.proofs.Common.{◌≡◌, ◌∙◌, ℕ, not, false, get_or, Option, Some, sym, ap, subst, ◌<◌, ◌^◌}
use Rattle.std.specs.Prelude.{IfSome}
use Rattle.escrow_core.specs.Terms.{lock_expiry}
use Rattle.escrow_core.specs.ContractRows.{lesser}
use Rattle.escrow_core.proofs.Least.{least_on, least_off, lesser_below}
use Rattle.escrow_core.proofs.times.refund_expiry.Goals as goal
use Rattle.escrow_core.proofs.times.refund_expiry.Goals.{then-not-opened-lock, else-not-opened-lock}

pub loop-lock-preserved : goal.loop-lock-preserved
loop-lock-preserved c =
    let expiry = lock_expiry c.args.deal.now.mode c.args.deal.now c.args.arc c.args.terms.now in
    let closed = λ (i : ℕ). not (get_or c.args.opened.now i false) in
    elim c.if-not-opened-lock.branch [
      | then-not-opened-lock w ↦ (
          let is : c.if-not-opened-lock.least ≡ Some (lesser c.loop-lock.least w.lock_expiry.result) = w.least-is ∙ ap (λ (n : ℕ). Some n) w.lesser.ensures in
          record {
            exact =
                is ∙ ap (λ (n : ℕ). Some (lesser c.loop-lock.least n)) w.lock_expiry.ensures.exact
                ∙ least_on closed expiry c.loop-lock.lock c.loop-lock.least (ap not w.if-not-opened-lock.true) c.loop-lock.invariant.exact;
            small =
                subst (λ (o : Option ℕ). IfSome o (λ n. n < 2 ^ 62)) (sym is)
                (lesser_below c.loop-lock.least w.lock_expiry.result (2 ^ 62) c.loop-lock.invariant.small w.lock_expiry.ensures.small);
          })
      | else-not-opened-lock w ↦ record {
        exact = w.least-is ∙ least_off closed expiry c.loop-lock.lock c.loop-lock.least (ap not w.if-not-opened-lock.false) c.loop-lock.invariant.exact;
        small = subst (λ (o : Option ℕ). IfSome o (λ n. n < 2 ^ 62)) (sym w.least-is) c.loop-lock.invariant.small;
      }
    ]
