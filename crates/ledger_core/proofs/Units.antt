-- At every prefix of a legal history the balances and the held amount add up to the amount of the
-- arc.
use Rattle.std.proofs.Common.{◌≡◌, ℕ, ◌+◌, if◌then◌else◌, ◌≤◌, ◌==◌, Bool, true, false, cond, List, [], ◌∷◌, ◌++◌, Option, Some, None, is_some, refl}
use Rattle.std.proofs.Common.{sym, ap, ap₂, ◌∙◌, subst, arith, eq-eqb}
use Rattle.std.specs.List.{fold}
use Rattle.std.proofs.lemmas.Option.{none-some}
use Rattle.swap_base.specs.Lists.{or_else}
use Rattle.swap_base.proofs.Lists.{all_moments_front}
use Rattle.swap_digraph.specs.declared.deal.Deal.{Deal}
use Rattle.ledger_core.specs.declared.entry.Call.{Call}
use Rattle.ledger_core.specs.declared.entry.Call.TheVariants.{Publish, Unlock, Claim, Refund, Transfer}
use Rattle.ledger_core.specs.declared.entry.Sender.{Sender}
use Rattle.ledger_core.specs.declared.entry.Sender.TheVariants.{Party}
use Rattle.ledger_core.specs.declared.entry.Entry.{Entry}
use Rattle.ledger_core.specs.declared.accounts.Accounts.{Accounts}
use Rattle.swap_digraph.specs.Deal.{party, amount}
use Rattle.ledger_core.specs.declared.facts.Settlement.{Settlement}
use Rattle.ledger_core.specs.declared.facts.Settlement.TheVariants.{Claimed, Refunded}
use Rattle.ledger_core.specs.History.{accepted, Publication, publication, published, settling, settled, publication_terms, opening_accounts, transferred, moved}
use Rattle.ledger_core.specs.History.{accounts, held, rows, IsLegalMoment, IsLegal}
use Rattle.swap_base.proofs.Lists.{first_given_answer-append, grow, all_moments_front}
use Rattle.ledger_core.proofs.History.{claimed_done, refunded_done, of_publish, of_claim, of_refund, published-past, clear_at, of_transfer}

module _ (d : Deal) (a : ℕ) where
  pub record Units (h : List Entry) : Type 0 where
    pub same : (accounts d a h).held ≡ held h
    pub total : (accounts d a h).party + (accounts d a h).counterparty + held h ≡ amount d a

  abbrev Kept : List Entry → Type 0
  Kept h = IsLegal d a h → Units h

  fold-push : (b : Accounts) (h : List Entry) (e : Entry)
      → fold (λ b e. moved d a b e.sender (accepted e)) b (h ++ e ∷ [])
      ≡ moved d a (fold (λ b e. moved d a b e.sender (accepted e)) b h) e.sender (accepted e)
  fold-push b [] e = refl
  fold-push b (x ∷ h) e = fold-push (moved d a b x.sender (accepted x)) h e

  pub accounts-push : (h : List Entry) (e : Entry) → accounts d a (h ++ e ∷ []) ≡ moved d a (accounts d a h) e.sender (accepted e)
  accounts-push h e = fold-push (opening_accounts d a) h e

  -- nothing is settled before it is published
  pub settled-published : (h : List Entry) → IsLegal d a h → published h ≡ None → settled h ≡ None
  settled-published h l n = go (settled h) refl
    where
      go : (s : Option Settlement) → settled h ≡ s → settled h ≡ None
      go None e = e
      go (Some Claimed) e = let c = (claimed_done d a h l e).1 in let k =
          of_claim d a c.past c.act.by c.clear in absurd (none-some k.contract (sym n ∙ published-past h c.past c.now k.contract c.stands k.published))
      go (Some Refunded) e = let c = (refunded_done d a h l e).1 in let k =
          of_refund d a c.past c.act.by c.clear in absurd (none-some k.contract (sym n ∙ published-past h c.past c.now k.contract c.stands k.published))

  abbrev held_of : Option Settlement → Option Publication → ℕ
  held_of s p = if is_some s then 0 else (publication_terms p).amount

  or_else-none : {B : Type 0} (o : Option B) → or_else o None ≡ o
  or_else-none None = refl
  or_else-none (Some x) = refl

  held-push : (h : List Entry) (e : Entry) (o : Option Call) → accepted e ≡ o
      → held (h ++ e ∷ []) ≡ held_of (or_else (settled h) (or_else (settling o) None)) (or_else (published h) (or_else (publication e.height o) None))
  held-push h e o k =
      ap₂ held_of (first_given_answer-append (λ e. settling (accepted e)) h (e ∷ []) ∙ ap (λ o. or_else (settled h) (or_else (settling o) None)) k)
      (first_given_answer-append (λ e. publication e.height (accepted e)) h (e ∷ []) ∙ ap (λ o. or_else (published h) (or_else (publication e.height o) None)) k)

  -- an entry that settles and publishes nothing
  held_stays : (h : List Entry) (e : Entry) (o : Option Call) → accepted e ≡ o → settling o ≡ None → publication e.height o ≡ None → held (h ++ e ∷ []) ≡ held h
  held_stays h e o k s p =
      held-push h e o k ∙ ap₂ held_of (ap (λ x. or_else (settled h) (or_else x None)) s
      ∙ or_else-none (settled h)) (ap (λ x. or_else (published h) (or_else x None)) p ∙ or_else-none (published h))

  pub after : (h : List Entry) (e : Entry) (s : Sender) (o : Option Call) → e.sender ≡ s → accepted e ≡ o
      → accounts d a (h ++ e ∷ []) ≡ moved d a (accounts d a h) s o
  after h e s o es k = accounts-push h e ∙ ap₂ (moved d a (accounts d a h)) es k

  from_accounts : (h : List Entry) (b : Accounts) (n : ℕ) → accounts d a h ≡ b → held h ≡ n → b.held ≡ n → b.party + b.counterparty + n ≡ amount d a → Units h
  from_accounts h b n e k same total = record {
    same = ap (λ x. x.held) e ∙ (same ∙ sym k);
    total = let p = ap (λ x. x.party) e in let c = ap (λ x. x.counterparty) e in omega arith;
  }

  step : (h : List Entry) (e : Entry) (o : Option Call) → accepted e ≡ o → IsLegal d a (h ++ e ∷ []) → IsLegal d a h → Units h → Units (h ++ e ∷ [])
  unfolding rows
  step h e None k l l0 u =
      from_accounts (h ++ e ∷ []) (accounts d a h) (held h) (after h e e.sender None refl k) (held_stays h e None k refl refl) u.same u.total
  step h e (Some (Unlock key)) k l l0 u =
      from_accounts (h ++ e ∷ []) (accounts d a h) (held h) (after h e e.sender (Some (Unlock key)) refl k)
      (held_stays h e (Some (Unlock key)) k refl refl) u.same u.total
  step h e (Some (Publish t)) k l l0 u =
      let c = clear_at d a (h ++ e ∷ []) h e (Publish t) l ([], refl) k in
      let p = of_publish d a h c.0.by t c.1 in
      let s : settled h ≡ None = settled-published h l0 p.first in
      let before : held h ≡ 0 = ap₂ held_of s p.first in
      let funds : t.amount ≤ (accounts d a h).party =
      subst (λ x. t.amount ≤ cond x (accounts d a h).party (accounts d a h).counterparty) (eq-eqb c.0.by (party d a) p.party) p.funds in
      let same = u.same in
      let total = u.total in
      from_accounts (h ++ e ∷ []) (moved d a (accounts d a h) (Party c.0.by) (Some (Publish t))) t.amount
      (after h e (Party c.0.by) (Some (Publish t)) c.0.sender k)
      (held-push h e (Some (Publish t)) k ∙ ap₂ (λ x y. held_of (or_else x None) (or_else y (Some (record { height = e.height; terms = t })))) s p.first)
      (omega arith) (omega arith)
  step h e (Some Claim) k l l0 u =
      let c = clear_at d a (h ++ e ∷ []) h e Claim l ([], refl) k in
      let p = of_claim d a h c.0.by c.1 in
      let same = u.same in
      let total = u.total in
      from_accounts (h ++ e ∷ []) (moved d a (accounts d a h) (Party c.0.by) (Some Claim)) 0 (after h e (Party c.0.by) (Some Claim) c.0.sender k)
      (held-push h e (Some Claim) k ∙ ap (λ x. held_of (or_else x (Some Claimed)) (or_else (published h) None)) p.unsettled) refl (omega arith)
  step h e (Some Refund) k l l0 u =
      let c = clear_at d a (h ++ e ∷ []) h e Refund l ([], refl) k in
      let p = of_refund d a h c.0.by c.1 in
      let same = u.same in
      let total = u.total in
      from_accounts (h ++ e ∷ []) (moved d a (accounts d a h) (Party c.0.by) (Some Refund)) 0 (after h e (Party c.0.by) (Some Refund) c.0.sender k)
      (held-push h e (Some Refund) k ∙ ap (λ x. held_of (or_else x (Some Refunded)) (or_else (published h) None)) p.unsettled) refl (omega arith)
  step h e (Some (Transfer to units)) k l l0 u =
      let c = clear_at d a (h ++ e ∷ []) h e (Transfer to units) l ([], refl) k in
      let p = of_transfer d a h c.0.by to units c.1 in
      go (c.0.by == party d a) (to == party d a) p (after h e (Party c.0.by) (Some (Transfer to units)) c.0.sender k)
    where
      b : Accounts
      b = accounts d a h

      go : (x y : Bool) → units ≤ cond x b.party b.counterparty → accounts d a (h ++ e ∷ []) ≡ transferred b x y units → Units (h ++ e ∷ [])
      go true true f q = from_accounts (h ++ e ∷ []) b (held h) q (held_stays h e (Some (Transfer to units)) k refl refl) u.same u.total
      go false false f q = from_accounts (h ++ e ∷ []) b (held h) q (held_stays h e (Some (Transfer to units)) k refl refl) u.same u.total
      go true false f q = let total =
          u.total in from_accounts (h ++ e ∷ []) (transferred b true false units) (held h) q (held_stays h e (Some (Transfer to units)) k refl refl)
          u.same (omega arith)
      go false true f q = let total =
          u.total in from_accounts (h ++ e ∷ []) (transferred b false true units) (held h) q (held_stays h e (Some (Transfer to units)) k refl refl)
          u.same (omega arith)

  pub units : (h : List Entry) → IsLegal d a h → Units h
  units h = grow Kept h (λ l. record { same = refl; total = omega arith }) (λ xs x rest l.
      let l0 = all_moments_front (IsLegalMoment d a) xs (x ∷ []) l in
      step xs x (accepted x) refl l l0 (rest l0))
