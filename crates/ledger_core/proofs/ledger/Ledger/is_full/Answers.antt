use Rattle.std.proofs.Common.{◌≡◌, ℕ, List, Bool, true, false, ◌==◌, ◌||◌, IsTrue, leb, sym, ap, ◌∙◌, refl, eqb-true}
use Rattle.swap_digraph.specs.Deal.{party, counterparty}
use Rattle.ledger_core.specs.declared.entry.Entry.{Entry}
use Rattle.ledger_core.specs.History.{is_full}
use Rattle.ledger_core.proofs.Bounds.{total_calls}
use Rattle.ledger_core.proofs.ledger.Ledger.is_full.Goals as goal
use Rattle.ledger_core.proofs.ledger.Ledger.is_full.Goals.{then-p-self, else-p-self}

count_at : (h : List Entry) (n p q : ℕ) → n ≡ total_calls q h → p ≡ q → leb 32 n ≡ is_full h p
count_at h n p q e k = ap (leb 32) (e ∙ ap (λ x. total_calls x h) (sym k))

other : (p q r : ℕ) → IsTrue ((p == q) || (p == r)) → (p ≡ q → ⊥) → p ≡ r
other p q r h n = go (p == q) refl h
  where
    go : (b : Bool) → (p == q) ≡ b → (b || (p == r)) ≡ true → p ≡ r
    go true e k = absurd (n (eqb-true p q e))
    go false e k = eqb-true p r k

pub returns : goal.returns
returns c =
    let l = c.self.inside in
    let i = c.self.invariant in
    let two = rw (← c.self.view_is) at c.requires in
    rw (← c.self.view_is)
    (elim c.if-p-self.branch [
      | then-p-self w ↦ count_at l.history.list c.if-p-self.calls c.args.p (party l.deal l.arc) (w.calls-is ∙ i.scans.by_party) (w.if-p-self.true ∙ i.party)
      | else-p-self w ↦ count_at l.history.list c.if-p-self.calls c.args.p (counterparty l.deal l.arc) (w.calls-is ∙ i.scans.by_counterparty)
          (other c.args.p (party l.deal l.arc) (counterparty l.deal l.arc) two (λ e. w.if-p-self.false (e ∙ sym i.party)))
    ])
