-- A hashkey that is due for a lock is a good one, by what the party published alone.
use Rattle.std.proofs.Common.{◌≡◌, ℕ, ◌<◌, Bool, true, false, cond, length, Option, Some, None}
use Rattle.std.proofs.Common.{refl, sym, ap, ◌∙◌, subst}
use Rattle.std.specs.List.{list_any}
use Rattle.std.proofs.lemmas.Option.{same_Some}
use Rattle.swap_base.specs.Lists.{or_else, IsElement}
use Rattle.swap_base.proofs.Lists.{first_at, list_any-in, or-right, in_from_moment}
use Rattle.swap_digraph.specs.declared.deal.Mode.{Mode}
use Rattle.swap_digraph.specs.declared.deal.Mode.TheVariants.{Timelocks, Hashkeys}
use Rattle.swap_digraph.specs.declared.deal.Deal.{Deal}
use Rattle.swap_digraph.specs.Graph.{leaving}
use Rattle.swap_digraph.specs.Deal.{leads, lock_hashlock}
use Rattle.hashkey_path.specs.declared.hashkey.Hashkey.{Hashkey}
use Rattle.hashkey_path.specs.Hashkey.{is_valid}
use Rattle.escrow_core.specs.Terms.{terms_hashlock, stated_terms}
use Rattle.ledger_core.specs.declared.entry.Call.TheVariants.{Unlock}
use Rattle.ledger_core.specs.declared.entry.Entry.{Entry}
use Rattle.ledger_core.specs.History.{accepted, Publication, published, opened, IsLegal}
use Rattle.ledger_core.specs.Book.{Histories, history, IsLegalBook}
use Rattle.ledger_core.proofs.History.{opened_done, of_unlock, published-past, lock-below}
use Rattle.swap_rules.specs.Party.{first_seen_key, key_without_party}
use Rattle.swap_rules.specs.Conduct.{has_origin, carries, extends_without_party, is_alone}
use Rattle.swap_rules.specs.Due.{Wallet, seen_key, extended, due_key}
use Rattle.swap_rules.specs.Machine.{KeepsKey, IsGoodKey, IsWallet, IsOwnKey, IsDerivedHashkey}
use Rattle.swap_rules.proofs.Entering.{valid_of_unlock}
use Rattle.swap_rules.proofs.Words.{key_without_parts, leaves, or-left}
use Rattle.swap_rules.proofs.Growth.{Grows, opened-more}

-- every kept hashkey is good for its lock
abbrev pub AreGood : Deal → Histories → ℕ → (ℕ → Option Hashkey) → Type 0
AreGood d b v kept = (i : ℕ) (key : Hashkey) → kept i ≡ Some key → KeepsKey d b v i key

-- what v published on a leaving arc is correct
abbrev pub OwnTerms : Deal → Histories → ℕ → Type 0
OwnTerms d b v = (c : ℕ) (p : Publication) → IsElement c (leaving d.graph v) → published (history b c) ≡ Some p → p.terms ≡ stated_terms d c

module _ (d : Deal) (v : ℕ) (w : Wallet) (b : Histories) (legal : IsLegalBook d b) (wallet : IsWallet d v w) (own_terms : OwnTerms d b v) where
  legal_on : (a : ℕ) → a < length d.graph.arcs → IsLegal d a (history b a)
  legal_on a l = legal.legal a (rw legal.one_each l)

  onto_origin : (m : Mode) → d.mode ≡ m → (c : ℕ) (inner key : Hashkey) (e : Entry) → IsElement c (leaving d.graph v) → IsElement e (history b c)
      → accepted e ≡ Some (Unlock inner) → leads d v key.lock ≡ false → IsDerivedHashkey m v inner key → has_origin m d b v key ≡ true
  onto_origin Timelocks em c inner key e i j took f o =
      or-right (leads d v key.lock) _ (list_any-in (λ a. list_any (λ e. carries key.secret (accepted e)) (history b a)) (leaving d.graph v) c
      (list_any-in (λ e. carries key.secret (accepted e)) (history b c) e (ap (carries key.secret) took ∙ o) j) i)
  onto_origin Hashkeys em c inner key e i j took f o =
      ap (λ x. cond x (is_alone v key.path) (list_any (λ a. list_any (λ e. extends_without_party v key (accepted e)) (history b a)) (leaving d.graph v))) f
      ∙ list_any-in (λ a. list_any (λ e. extends_without_party v key (accepted e)) (history b a)) (leaving d.graph v) c
      (list_any-in (λ e. extends_without_party v key (accepted e)) (history b c) e (ap (extends_without_party v key) took ∙ o) j) i

  own_origin : (m : Mode) → (key : Hashkey) → leads d v key.lock ≡ true → IsOwnKey m v key → has_origin m d b v key ≡ true
  own_origin Timelocks key l o = or-left (leads d v key.lock) _ l
  own_origin Hashkeys key l o =
      ap (λ x. cond x (is_alone v key.path) (list_any (λ a. list_any (λ e. extends_without_party v key (accepted e)) (history b a)) (leaving d.graph v))) l
      ∙ o

  pub key_rule : (signed : ℕ → Option Hashkey) (known : Histories) → AreGood d b v signed → Grows known b → (i : ℕ) (key : Hashkey) → i < length d.leaders
      → due_key d v w (signed i) known i ≡ Some key → KeepsKey d b v i key
  unfolding due_key seen_key
  key_rule signed known good grows i key below e = go (signed i) refl e
    where
      onto : (o : Option Hashkey) → first_seen_key d known v i ≡ o → leads d v i ≡ false → extended w o ≡ Some key → KeepsKey d b v i key
      onto None q f e = absurd (cc e)
      onto (Some inner) q f e =
          let x = first_at (λ a. key_without_party v (opened (history known a) i)) (leaving d.graph v) inner q in
          let c : IsElement x.now (leaving d.graph v) = subst (IsElement x.now) (sym x.stands.1) (in_from_moment x.past x.now x.stands.0) in
          let l = leaves d v x.now c in
          let p = key_without_parts v (opened (history known x.now) i) inner x.gives in
          let o : opened (history b x.now) i ≡ Some p.0 = opened-more (history known x.now) (history b x.now) i p.0 (grows x.now) p.1 in
          let u = opened_done d x.now (history b x.now) i p.0 (legal_on x.now l.0) o in
          let of_u = of_unlock d x.now u.0.past u.0.act.by p.0.key u.0.clear in
          let terms : of_u.contract.terms ≡ stated_terms d x.now =
          own_terms x.now of_u.contract c (published-past (history b x.now) u.0.past u.0.now of_u.contract u.0.stands of_u.published) in
          let valid : is_valid d x.now (lock_hashlock d p.0.key.lock) p.0.key ≡ true =
          subst (λ t. is_valid d x.now (terms_hashlock t p.0.key.lock) p.0.key ≡ true) terms (valid_of_unlock d x.now u.0.past u.0.act.by p.0.key of_u)
          in
          let good = wallet.onto x.now p.0.key c (lock-below d x.now p.0.key u.0.act.fits) valid p.3 in
          let key_is : w.onto p.0.key ≡ key = ap w.onto p.2 ∙ same_Some (w.onto inner) key e in
          let lock_is : p.0.key.lock ≡ i = u.1 in
          let g1 : IsGoodKey d v i key = subst (λ z. IsGoodKey d v i z) key_is (subst (λ j. IsGoodKey d v j (w.onto p.0.key)) lock_is good.0) in
          let g2 : IsDerivedHashkey d.mode v p.0.key key = subst (λ z. IsDerivedHashkey d.mode v p.0.key z) key_is good.1 in
          record {
            below = below;
            good = g1;
            origin =
                onto_origin d.mode refl x.now p.0.key key u.0.now c
                (subst (IsElement u.0.now) (sym u.0.stands.1) (in_from_moment u.0.past u.0.now u.0.stands.0)) u.0.took (ap (leads d v) g1.lock ∙ f) g2;
          }

      fresh : (x : Bool) → leads d v i ≡ x → cond x (Some (w.first i)) (extended w (first_seen_key d known v i)) ≡ Some key → KeepsKey d b v i key
      fresh true l e =
          let f = wallet.first i below l in
          let key_is : w.first i ≡ key = same_Some (w.first i) key e in
          let g1 : IsGoodKey d v i key = subst (λ z. IsGoodKey d v i z) key_is f.0 in
          record { below = below; good = g1; origin = own_origin d.mode key (ap (leads d v) g1.lock ∙ l) (subst (λ z. IsOwnKey d.mode v z) key_is f.1) }
      fresh false l e = onto (first_seen_key d known v i) refl l e

      go : (s : Option Hashkey) → signed i ≡ s → or_else s (cond (leads d v i) (Some (w.first i)) (extended w (first_seen_key d known v i))) ≡ Some key
          → KeepsKey d b v i key
      go (Some k) q e = good i key (q ∙ e)
      go None q e = fresh (leads d v i) refl e
