-- Where the whole amount was published, the payer has nothing until a refund, so a claim pays the
-- whole amount.
use Rattle.std.proofs.Common.{◌≡◌, ℕ, ◌≤◌, ◌==◌, Bool, true, false, cond, ◌||◌, List, [], ◌∷◌, ◌++◌, Option, Some, None, is_some, refl, sym}
use Rattle.std.proofs.Common.{ap, ◌∙◌, subst, inl, inr, arith, eq-eqb, eqb-true}
use Rattle.std.proofs.lemmas.Option.{none-some}
use Rattle.swap_base.specs.Lists.{or_else, IsElement}
use Rattle.swap_base.proofs.Lists.{grow, all_moments_front, first_given_answer-append, first_given_answer-front, in_append, or_else-none}
use Rattle.swap_digraph.specs.declared.deal.Deal.{Deal}
use Rattle.swap_digraph.specs.Deal.{party, counterparty, amount}
use Rattle.ledger_core.specs.declared.entry.Call.{Call}
use Rattle.ledger_core.specs.declared.entry.Call.TheVariants.{Publish, Unlock, Claim, Refund, Transfer}
use Rattle.ledger_core.specs.declared.entry.Sender.{Sender}
use Rattle.ledger_core.specs.declared.entry.Sender.TheVariants.{Party}
use Rattle.ledger_core.specs.declared.entry.Entry.{Entry}
use Rattle.ledger_core.specs.declared.accounts.Accounts.{Accounts}
use Rattle.ledger_core.specs.declared.facts.Settlement.TheVariants.{Claimed, Refunded}
use Rattle.ledger_core.specs.History.{accepted, Publication, publication, published, settling, settled, IsLegal, IsLegalMoment, accounts, held, moved, transferred, the_terms, publication_terms}
use Rattle.ledger_core.proofs.History.{clear_at, of_publish, of_refund, of_transfer}
use Rattle.ledger_core.proofs.Units.{units, after, settled-published}
use Rattle.swap_rules.specs.Party.{pick_call}
use Rattle.swap_rules.proofs.Words.{pick_call-act}

or_second : (x y : Bool) → x ≡ false → (x || y) ≡ true → y ≡ true
or_second true y h k = absurd (cc h)
or_second false y h k = k

module _ (d : Deal) (a : ℕ) where
  -- no call of the arc's counterparty is a transfer
  abbrev pub NoTransferBack : List Entry → Type 0
  NoTransferBack h = (e : Entry) (to units : ℕ) → IsElement e h → pick_call (counterparty d a) e ≡ Some (Transfer to units) → ⊥

  -- the accepted publish is of the arc's whole amount
  abbrev pub OfWhole : List Entry → Type 0
  OfWhole h = (p : Publication) × (published h ≡ Some p) × (p.terms.amount ≡ amount d a)

  abbrev pub Spent : List Entry → Type 0
  Spent h = IsLegal d a h → NoTransferBack h → OfWhole h → (settled h ≡ Some Refunded → ⊥) → (accounts d a h).party ≡ 0

  published_push : (h : List Entry) (e : Entry) (o : Option Call) → accepted e ≡ o
      → published (h ++ e ∷ []) ≡ or_else (published h) (or_else (publication e.height o) None)
  published_push h e o k =
      first_given_answer-append (λ e. publication e.height (accepted e)) h (e ∷ [])
      ∙ ap (λ o. or_else (published h) (or_else (publication e.height o) None)) k

  -- an entry that publishes nothing
  same_publish : (h : List Entry) (e : Entry) (o : Option Call) → accepted e ≡ o → publication e.height o ≡ None → OfWhole (h ++ e ∷ []) → OfWhole h
  same_publish h e o k n w =
      let same : published (h ++ e ∷ []) ≡ published h =
      published_push h e o k ∙ (ap (λ x. or_else (published h) (or_else x None)) n ∙ or_else-none (published h)) in
      (w.0, sym same ∙ w.1, w.2)

  from_spent : (h : List Entry) (e : Entry) (s : Sender) (o : Option Call) → e.sender ≡ s → accepted e ≡ o
      → (moved d a (accounts d a h) s o).party ≡ 0 → (accounts d a (h ++ e ∷ [])).party ≡ 0
  from_spent h e s o es k z = ap (λ x. x.party) (after d a h e s o es k) ∙ z

  spent_step : (h : List Entry) (e : Entry) (o : Option Call) → accepted e ≡ o → IsLegal d a (h ++ e ∷ []) → IsLegal d a h → NoTransferBack (h ++ e ∷ [])
      → OfWhole (h ++ e ∷ []) → (settled (h ++ e ∷ []) ≡ Some Refunded → ⊥) → (OfWhole h → (accounts d a h).party ≡ 0)
      → (accounts d a (h ++ e ∷ [])).party ≡ 0
  spent_step h e None k l l0 n w r rest = from_spent h e e.sender None refl k (rest (same_publish h e None k refl w))
  spent_step h e (Some (Unlock key)) k l l0 n w r rest =
      from_spent h e e.sender (Some (Unlock key)) refl k (rest (same_publish h e (Some (Unlock key)) k refl w))
  spent_step h e (Some Claim) k l l0 n w r rest = from_spent h e e.sender (Some Claim) refl k (rest (same_publish h e (Some Claim) k refl w))
  spent_step h e (Some Refund) k l l0 n w r rest =
      let q = clear_at d a (h ++ e ∷ []) h e Refund l ([], refl) k in
      let u = (of_refund d a h q.0.by q.1).unsettled in
      absurd (r (first_given_answer-append (λ e. settling (accepted e)) h (e ∷ [])
      ∙ (ap (λ x. or_else x (or_else (settling (accepted e)) None)) u ∙ ap (λ x. or_else (settling x) None) k)))
  spent_step h e (Some (Publish t)) k l l0 n w r rest =
      let q = clear_at d a (h ++ e ∷ []) h e (Publish t) l ([], refl) k in
      let p = of_publish d a h q.0.by t q.1 in
      let none : settled h ≡ None = settled-published d a h l0 p.first in
      let before : held h ≡ 0 =
      ap (λ x. cond (is_some x) 0 (the_terms h).amount) none ∙ ap (λ x. (publication_terms x).amount) p.first in
      let u = units d a h l0 in
      let total = u.total in
      let funds : t.amount ≤ (accounts d a h).party =
      subst (λ x. t.amount ≤ cond x (accounts d a h).party (accounts d a h).counterparty) (eq-eqb q.0.by (party d a) p.party) p.funds in
      let is_now : Some w.0 ≡ Some (record { height = e.height; terms = t }) =
      sym w.1 ∙ (published_push h e (Some (Publish t)) k ∙ ap (λ x. or_else x (Some (record { height = e.height; terms = t }))) p.first) in
      let same : w.0 ≡ record { height = e.height; terms = t } = cc in
      let whole : t.amount ≡ amount d a = ap (λ x. x.terms.amount) (sym same) ∙ w.2 in
      from_spent h e e.sender (Some (Publish t)) refl k (omega arith)
  spent_step h e (Some (Transfer to units)) k l l0 n w r rest =
      let q = clear_at d a (h ++ e ∷ []) h e (Transfer to units) l ([], refl) k in
      let f = of_transfer d a h q.0.by to units q.1 in
      from_spent h e (Party q.0.by) (Some (Transfer to units)) q.0.sender k
      (go (q.0.by == party d a) (to == party d a) (λ other.
      n e to units (in_append h (e ∷ []) e (inr (inl refl)))
      (pick_call-act d a h e (Transfer to units) (counterparty d a) q.0
      (eqb-true q.0.by (counterparty d a) (or_second (q.0.by == party d a) (q.0.by == counterparty d a) other q.0.of_the_two)))) f
      (rest (same_publish h e (Some (Transfer to units)) k refl w)))
    where
      b : Accounts
      b = accounts d a h

      go : (x y : Bool) → (x ≡ false → ⊥) → units ≤ cond x b.party b.counterparty → b.party ≡ 0 → (transferred b x y units).party ≡ 0
      go false y m f z = absurd (m refl)
      go true true m f z = z
      go true false m f z = omega arith

  pub is_spent : (h : List Entry) → Spent h
  is_spent h = grow Spent h (λ l n w r. absurd (none-some w.0 w.1)) (λ xs x rest l n w r.
      let l0 = all_moments_front (IsLegalMoment d a) xs (x ∷ []) l in
      spent_step xs x (accepted x) refl l l0 n w r (λ w0. rest l0 (λ e to units i. n e to units (in_append xs (x ∷ []) e (inl i))) w0
      (λ q. r (first_given_answer-front (λ e. settling (accepted e)) xs (x ∷ []) Refunded q))))

  -- a claim of a whole amount leaves it with the counterparty
  pub whole_is_paid : (h : List Entry) → IsLegal d a h → NoTransferBack h → OfWhole h → settled h ≡ Some Claimed → (accounts d a h).counterparty ≡ amount d a
  whole_is_paid h l n w s =
      let z = is_spent h l n w (λ r. let k : Some Claimed ≡ Some Refunded = sym s ∙ r in cc k) in
      let none : held h ≡ 0 = ap (λ x. cond (is_some x) 0 (the_terms h).amount) s in
      let u = units d a h l in
      let total = u.total in
      omega arith
