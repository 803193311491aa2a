use Rattle.std.proofs.Common.{◌≡◌, ◌∙◌, ℕ, not, Option, Some, map, sym, ap, subst, ◌<◌, ◌^◌}
use Rattle.std.specs.Prelude.{IfSome}
use Rattle.ledger_core.specs.Book.{history}
use Rattle.ledger_core.specs.History.{is_open}
use Rattle.escrow_core.specs.ContractRows.{lesser}
use Rattle.escrow_core.proofs.Least.{least_on, least_off, lesser_below}
use Rattle.swap_rules.specs.Party.{expiry}
use Rattle.due_calls.proofs.heights.least_expiry.Goals as goal
use Rattle.due_calls.proofs.heights.least_expiry.Goals.{then-not-is_open, else-not-is_open}

pub loop-lock-preserved : goal.loop-lock-preserved
loop-lock-preserved g c =
    let closed = λ (i : ℕ). not (is_open (history (map g.F.Facts.entries c.args.known.now) c.args.arc) i) in
    elim c.if-not-is_open.branch [
      | then-not-is_open w ↦ (
          let is : c.if-not-is_open.least ≡ Some (lesser c.loop-lock.least w.expiry.result) = w.least-is ∙ ap (λ (n : ℕ). Some n) w.lesser.ensures in
          record {
            exact =
                is ∙ ap (λ (n : ℕ). Some (lesser c.loop-lock.least n)) w.expiry.ensures.exact
                ∙ least_on closed (expiry c.args.deal.now c.args.arc) c.loop-lock.lock c.loop-lock.least (ap not (sym c.is_open.ensures
                ∙ w.if-not-is_open.true)) c.loop-lock.invariant.exact;
            small =
                subst (λ (o : Option ℕ). IfSome o (λ n. n < 2 ^ 62)) (sym is)
                (lesser_below c.loop-lock.least w.expiry.result (2 ^ 62) c.loop-lock.invariant.small w.expiry.ensures.small);
          })
      | else-not-is_open w ↦ record {
        exact =
            w.least-is ∙ least_off closed (expiry c.args.deal.now c.args.arc) c.loop-lock.lock c.loop-lock.least (ap not (sym c.is_open.ensures
            ∙ w.if-not-is_open.false)) c.loop-lock.invariant.exact;
        small = subst (λ (o : Option ℕ). IfSome o (λ n. n < 2 ^ 62)) (sym w.least-is) c.loop-lock.invariant.small;
      }
    ]
