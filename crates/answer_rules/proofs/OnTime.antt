-- Each useful call has its height.
use Rattle.std.proofs.Common.{◌≡◌, ℕ, ◌+◌, ◌<◌, max, Bool, true, false, cond, not, ◌||◌, ◌&&◌, length, Option, Some, None, is_some, is_none, refl, sym, ap}
use Rattle.std.proofs.Common.{◌∙◌, subst, lt-ltb, eq-eqb}
use Rattle.std.specs.List.{list_any}
use Rattle.std.proofs.lemmas.Bool.{false≢true}
use Rattle.swap_base.specs.Lists.{IsElement}
use Rattle.swap_base.proofs.Lists.{and_parts, and_both, or-right}
use Rattle.swap_digraph.specs.declared.deal.Deal.{Deal}
use Rattle.swap_digraph.specs.Graph.{leaving, entering, is_listed}
use Rattle.swap_digraph.specs.Deal.{leads}
use Rattle.swap_digraph.proofs.Paths.{in-is_listed}
use Rattle.hashkey_path.specs.declared.hashkey.Hashkey.{Hashkey}
use Rattle.escrow_core.specs.Terms.{stated_terms}
use Rattle.ledger_core.specs.declared.entry.Call.{Call}
use Rattle.ledger_core.specs.declared.entry.Call.TheVariants.{Publish, Unlock, Claim, Refund}
use Rattle.ledger_core.specs.History.{height, published, opened, settled}
use Rattle.ledger_core.specs.Book.{Histories, history, IsLegalBook}
use Rattle.swap_rules.specs.declared.finding.Rule.TheVariants as rules
use Rattle.swap_rules.specs.Party.{is_correct, is_ready, is_triggered, has_expired, leads_one, ready_height, least_expiry, first_key, opens_without_party}
use Rattle.swap_rules.specs.Conduct.{is_publish}
use Rattle.swap_rules.specs.Late.{when, reference_height, unlock_base, trigger_height}
use Rattle.swap_rules.specs.Due.{Wallet, has_called, is_claiming, is_refunding, is_due_publish, unlocks_lock, may_unlock, is_due_claim, is_due_refund}
use Rattle.swap_rules.proofs.Cases.{Case, ToPublish, ToUnlock, ToClaim, ToRefund, case_of}
use Rattle.swap_rules.proofs.Useful.{useful_is_due}
use Rattle.swap_rules.proofs.Words.{and_three, and_five, or-left}
use Rattle.answer_rules.specs.Heights.{asked_height, height_or, last_on_time, HasHeight, ByRule, OfKept}
use Rattle.answer_rules.specs.Laws.{AreGoodKeys, SignsItsLock, UsefulHasHeight}
use Rattle.answer_rules.proofs.Due.{seen_shows, Origin, WasKept, IsOwn, IsPutOn, origin, due_lock}

when_true : (b : Bool) (n : ℕ) → b ≡ true → when b n ≡ Some n
when_true b n e = ap (λ t. when t n) e

when_false : (b : Bool) (n : ℕ) → b ≡ false → when b n ≡ None
when_false b n e = ap (λ t. when t n) e

three : (a b c : Bool) → a ≡ true → b ≡ true → c ≡ true → (a && b && c) ≡ true
three a b c p q r = and_both (a && b) c (and_both a b p q) r

no_third : (a b c : Bool) → c ≡ false → (a && b && c) ≡ false
no_third true true c e = e
no_third true false c e = refl
no_third false true c e = refl
no_third false false c e = refl

module _ (d : Deal) (v : ℕ) (w : Wallet) (kept : ℕ → Option Hashkey) (k : Histories) where
  abbrev Has : ℕ → Call → Type 0
  Has a c = HasHeight d k v kept (record { arc = a; call = c }) (last_on_time d k v a c)

  -- the height of a rule that asks
  asks : (a : ℕ) (c : Call) (ref : ℕ) → asked_height d k v a c ≡ Some ref → last_on_time d k v a c ≡ ref + d.delta
  asks a c ref e = ap (λ o. height_or o (ready_height d k v) + d.delta) e

  publish_at : (a : ℕ) → IsElement a (leaving d.graph v) → is_due_publish d v k a ≡ true → (ref : ℕ) × (reference_height d k v rules.Publish a ≡ Some ref)
  unfolding is_due_publish reference_height
  publish_at a i e =
      let p = and_parts (leads_one d v || is_ready d k v) (not (has_called v is_publish (history k a))) e in (
        cond (leads_one d v) 0 (ready_height d k v),
        when_true (is_listed a (leaving d.graph v) && (leads_one d v || is_ready d k v)) _
            (and_both (is_listed a (leaving d.graph v)) (leads_one d v || is_ready d k v) (in-is_listed a (leaving d.graph v) i) p.0),
      )

  claim_at : (a : ℕ) → IsElement a (entering d.graph v) → is_due_claim d v k a ≡ true → (ref : ℕ) × (reference_height d k v rules.Claim a ≡ Some ref)
  unfolding is_due_claim reference_height
  claim_at a i e =
      let p = and_three (is_correct d k a) (is_triggered d k a) (not (has_called v is_claiming (history k a))) e in (
        trigger_height d (history k a),
        when_true (is_listed a (entering d.graph v) && is_correct d k a && is_triggered d k a) _
            (three (is_listed a (entering d.graph v)) (is_correct d k a) (is_triggered d k a) (in-is_listed a (entering d.graph v) i) p.0 p.1),
      )

  refund_at : (a : ℕ) → IsElement a (leaving d.graph v) → is_due_refund d v k a ≡ true → (ref : ℕ) × (reference_height d k v rules.Refund a ≡ Some ref)
  unfolding is_due_refund reference_height
  refund_at a i e =
      let p =
      and_five (is_some (published (history k a))) (is_none (settled (history k a))) (not (is_triggered d k a))
      (has_expired d a (history k a) (height (history k a))) (not (has_called v is_refunding (history k a))) e in (
        least_expiry d a (history k a),
        when_true (is_listed a (leaving d.graph v) && is_some (published (history k a)) && not (is_triggered d k a)) _
            (three (is_listed a (leaving d.graph v)) (is_some (published (history k a))) (not (is_triggered d k a)) (in-is_listed a (leaving d.graph v) i) p.0
            p.2),
      )

  -- whether a hashkey for lock i is at hand over what is known
  abbrev at_hand : ℕ → Bool
  at_hand i =
      leads d v i || is_some (first_key k v i) || list_any (λ c. opens_without_party v (opened (history k c) i)) (leaving d.graph v)

  unlock_at : (a i : ℕ) → IsElement a (entering d.graph v) → may_unlock d v k i a ≡ true → at_hand i ≡ true → (ref : ℕ) × (reference_height d k v (rules.Unlock i) a ≡ Some ref)
  unfolding reference_height
  unlock_at a i j may hand =
      let p = and_parts (is_ready d k v) (not (has_called v (unlocks_lock i) (history k a))) may in (
        cond (leads d v i) (ready_height d k v) (max (ready_height d k v) (unlock_base d.mode d k v i (first_key k v i))),
        when_true (is_listed a (entering d.graph v) && is_ready d k v && at_hand i) _
            (three (is_listed a (entering d.graph v)) (is_ready d k v) (at_hand i) (in-is_listed a (entering d.graph v) j) p.0 hand),
      )

  no_unlock_at : (a i : ℕ) → at_hand i ≡ false → reference_height d k v (rules.Unlock i) a ≡ None
  unfolding reference_height
  no_unlock_at a i hand =
      when_false (is_listed a (entering d.graph v) && is_ready d k v && at_hand i) _
      (no_third (is_listed a (entering d.graph v)) (is_ready d k v) (at_hand i) hand)

  -- where none is at hand the hashkey was kept
  was_kept : (i : ℕ) (key : Hashkey) → at_hand i ≡ false → Origin d v w kept k i key → kept i ≡ Some key
  was_kept i key none (WasKept e) = e
  was_kept i key none (IsOwn n l e) =
      absurd (false≢true (sym none ∙ or-left (leads d v i || is_some (first_key k v i)) _ (or-left (leads d v i) (is_some (first_key k v i)) l)))
  was_kept i key none (IsPutOn inner n l q e) =
      absurd (false≢true (sym none ∙ or-right (leads d v i || is_some (first_key k v i)) _ (seen_shows d v k i inner q)))

  unlock_has : (a : ℕ) (key : Hashkey) → key.lock < length d.leaders → IsElement a (entering d.graph v) → may_unlock d v k key.lock a ≡ true
      → Origin d v w kept k key.lock key → Has a (Unlock key)
  unlock_has a key below i may from = go (at_hand key.lock) refl
    where
      same : asked_height d k v a (Unlock key) ≡ reference_height d k v (rules.Unlock key.lock) a
      same = ap (λ b. cond b (reference_height d k v (rules.Unlock key.lock) a) None) (lt-ltb key.lock (length d.leaders) below)

      go : (b : Bool) → at_hand key.lock ≡ b → Has a (Unlock key)
      go true hand =
          let r = unlock_at a key.lock i may hand in
          ByRule (rules.Unlock key.lock) r.0 (eq-eqb key.lock key.lock refl) r.1 (asks a (Unlock key) r.0 (same ∙ r.1))
      go false none =
          let n = no_unlock_at a key.lock none in
          OfKept key refl (was_kept key.lock key none from) n (ap (λ o. height_or o (ready_height d k v) + d.delta) (same ∙ n))

  module _ (legal : IsLegalBook d k) (signs : SignsItsLock w) (good : AreGoodKeys d v kept) where
    by_case : (a : ℕ) (c : Call) → Case d v w kept k a c → Has a c
    by_case a c (ToPublish i due e) =
        let r = publish_at a i due in
        subst (Has a) (sym e) (ByRule rules.Publish r.0 refl r.1 (asks a (Publish (stated_terms d a)) r.0 r.1))
    by_case a c (ToUnlock i key below j may due e) =
        let from = origin d v w kept k i key due in
        let lock = due_lock d v w kept k i key legal signs good from in
        subst (Has a) (sym e)
        (unlock_has a key (subst (λ n. n < length d.leaders) (sym lock) below) j (subst (λ n. may_unlock d v k n a ≡ true) (sym lock) may)
        (subst (λ n. Origin d v w kept k n key) (sym lock) from))
    by_case a c (ToClaim i due e) =
        let r = claim_at a i due in
        subst (Has a) (sym e) (ByRule rules.Claim r.0 refl r.1 (asks a Claim r.0 r.1))
    by_case a c (ToRefund i due e) =
        let r = refund_at a i due in
        subst (Has a) (sym e) (ByRule rules.Refund r.0 refl r.1 (asks a Refund r.0 r.1))

pub useful_has_height : UsefulHasHeight
useful_has_height d v at w kept k x legal signs good i =
    by_case d v w kept k legal signs good x.arc x.call (case_of d v w kept k x (useful_is_due d v at w kept k x i))
