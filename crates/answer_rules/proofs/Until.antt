-- Each useful unlock has the last height at which the contract accepts it.
use Rattle.std.proofs.Common.{◌≡◌, ◌≢◌, ℕ, ◌<◌, ◌≤◌, nat_lt, true, false, not, List, ◌++◌, length, Option, Some, None, is_some, is_none, refl, sym, ap}
use Rattle.std.proofs.Common.{◌∙◌, subst, arith, ltb-true, eq-eqb}
use Rattle.std.proofs.lemmas.Bool.{false≢true}
use Rattle.swap_base.specs.Lists.{IsElement}
use Rattle.swap_base.proofs.Lists.{and_parts, list_any-in, in_from_moment}
use Rattle.swap_digraph.specs.declared.deal.Deal.{Deal}
use Rattle.swap_digraph.specs.Graph.{entering}
use Rattle.swap_digraph.specs.Deal.{counterparty, lock_hashlock}
use Rattle.hashkey_path.specs.declared.hashkey.Hashkey.{Hashkey}
use Rattle.hashkey_path.specs.Hashkey.{is_wrong_secret, is_wrong_path, is_wrong_signature}
use Rattle.escrow_core.specs.declared.reply.Reply.TheVariants.{Accepted}
use Rattle.escrow_core.specs.declared.terms.Terms.{Terms}
use Rattle.escrow_core.specs.Terms.{stated_terms, last_unlock, terms_hashlock}
use Rattle.ledger_core.specs.declared.entry.Call.{Call}
use Rattle.ledger_core.specs.declared.entry.Call.TheVariants.{Unlock}
use Rattle.ledger_core.specs.declared.entry.Entry.{Entry}
use Rattle.ledger_core.specs.History.{height, Publication, published, Opening, opened, is_open, publication_terms, the_terms, rows, history_reply, IsLegal}
use Rattle.ledger_core.specs.Book.{Histories, history, IsLegalBook}
use Rattle.ledger_core.proofs.History.{accepted_clear, from_clear, of_unlock, opened_done, not-true, not-true-of}
use Rattle.swap_rules.specs.Party.{is_arc_correct, is_correct, is_ready, pick_call}
use Rattle.swap_rules.specs.Due.{Wallet, has_called, unlocks_lock, may_unlock, due_key}
use Rattle.swap_rules.specs.Machine.{IsWallet, IsGoodKey}
use Rattle.swap_rules.specs.Rest.{are_ticks}
use Rattle.swap_rules.proofs.Cases.{Case, ToPublish, ToUnlock, ToClaim, ToRefund, case_of}
use Rattle.swap_rules.proofs.DueKeys.{OwnTerms, key_rule}
use Rattle.swap_rules.proofs.Growth.{ready_good}
use Rattle.swap_rules.proofs.Prefixes.{begins_refl}
use Rattle.swap_rules.proofs.Rest.{reads_on}
use Rattle.swap_rules.proofs.Useful.{useful_is_due}
use Rattle.swap_rules.proofs.Words.{and_three, enters, pick_call-act, same_terms-true}
use Rattle.answer_rules.specs.Heights.{last_accepted}
use Rattle.answer_rules.specs.Laws.{AreGoodKeys, CanBeOpened, IsLastHeight, SignsItsLock, UnlocksHaveLast}
use Rattle.answer_rules.proofs.Due.{origin, due_lock}

-- A publish of the correct terms.
pub record Correct (d : Deal) (a : ℕ) (o : Option Publication) : Type 0 where
  pub publication : Publication
  pub is : o ≡ Some publication
  pub terms : publication.terms ≡ stated_terms d a

pub correct_parts : (d : Deal) (a : ℕ) (o : Option Publication) → is_arc_correct d a o ≡ true → Correct d a o
correct_parts d a None e = absurd (cc e)
correct_parts d a (Some p) e = record { publication = p; is = refl; terms = same_terms-true p.terms (stated_terms d a) e }

-- the hashkey of an unlock that is due is good
good_by : (d : Deal) (v : ℕ) (w : Wallet) (kept : ℕ → Option Hashkey) (k : Histories) (i : ℕ) (key : Hashkey) → IsLegalBook d k → IsWallet d v w
    → AreGoodKeys d v kept → i < length d.leaders → OwnTerms d k v → (o : Option Hashkey) → kept i ≡ o → due_key d v w o k i ≡ Some key → IsGoodKey d v i key
unfolding due_key
good_by d v w kept k i key legal wallet good below own None q e =
    let r = key_rule d v w k legal wallet own (λ j. None) k (λ j z f. absurd (cc f)) (λ c. begins_refl (history k c)) i key below e in r.good
good_by d v w kept k i key legal wallet good below own (Some z) q e = good i key (q ∙ e)

-- An unlock that is due on arc a.
module _ (d : Deal) (v : ℕ) (w : Wallet) (kept : ℕ → Option Hashkey) (k : Histories) (a i : ℕ) (key : Hashkey) (legal : IsLegalBook d k)
    (wallet : IsWallet d v w) (good : AreGoodKeys d v kept) (below : i < length d.leaders) (on : IsElement a (entering d.graph v))
    (may : may_unlock d v k i a ≡ true) (due : due_key d v w (kept i) k i ≡ Some key) (lock : key.lock ≡ i) where
  abbrev now : List Entry
  now = history k a

  legal_now : IsLegal d a now
  legal_now = let l = (enters d v a on).0 in legal.legal a (rw legal.one_each l)

  of_v : counterparty d a ≡ v
  of_v = (enters d v a on).1

  correct : Correct d a (published now)
  correct =
      let ready = and_parts (is_ready d k v) (not (has_called v (unlocks_lock i) now)) may in
      let g = ready_good d k v a ready.0 on in
      correct_parts d a (published now) (and_parts (is_correct d k a) _ g).0

  -- v has opened no lock where it made no call
  called_if : (o : Option Opening) → opened now i ≡ o → is_some o ≡ true → has_called v (unlocks_lock i) now ≡ true
  called_if None q s = absurd (false≢true s)
  called_if (Some o) q s =
      let done = opened_done d a now i o legal_now q in
      let u = of_unlock d a done.0.past done.0.act.by o.key done.0.clear in
      let made = pick_call-act d a done.0.past done.0.now (Unlock o.key) v done.0.act (u.counterparty ∙ of_v) in
      list_any-in (λ e. unlocks_lock i (pick_call v e)) now done.0.now (ap (unlocks_lock i) made ∙ eq-eqb o.key.lock i done.1)
      (subst (IsElement done.0.now) (sym done.0.stands.1) (in_from_moment done.0.past done.0.now done.0.stands.0))

  uncalled : has_called v (unlocks_lock i) now ≡ false
  uncalled =
      not-true-of (has_called v (unlocks_lock i) now) (and_parts (is_ready d k v) (not (has_called v (unlocks_lock i) now)) may).1

  not_open : is_open now i ≡ false
  not_open = not-true (is_open now i) (λ e. false≢true (sym uncalled ∙ called_if (opened now i) refl e))

  module _ (more : List Entry) (ticks : are_ticks more ≡ true) where
    abbrev later : List Entry
    later = now ++ more

    published_later : published later ≡ published now
    published_later = let r = reads_on v now more ticks in r.publish

    terms_later : the_terms later ≡ stated_terms d a
    terms_later = let c = correct in ap publication_terms (published_later ∙ c.is) ∙ c.terms

    pub above : last_unlock d.mode (stated_terms d a) key < height later → history_reply d a later v (Unlock key) ≢ Accepted
    above high e =
        let u = of_unlock d a later v key (accepted_clear d a later v (Unlock key) e) in
        let same : the_terms later ≡ u.contract.terms = ap publication_terms u.published in
        let low : height later ≤ last_unlock d.mode (stated_terms d a) key =
        subst (λ t. height later ≤ last_unlock d.mode t key) (sym same ∙ terms_later) u.in_time in
        omega (arith, low, high)

    -- the hashkey is good
    is_good_key : CanBeOpened d k v later → IsGoodKey d v i key
    is_good_key can = good_by d v w kept k i key legal wallet good below can.own (kept i) refl due

    there : is_none (published later) ≡ false
    there = let c = correct in ap is_none (published_later ∙ c.is)

    closed : is_open later key.lock ≡ false
    closed = let r = reads_on v now more ticks in ap (is_open later) lock ∙ (ap is_some (r.open_at i) ∙ not_open)

    module _ (low : height later ≤ last_unlock d.mode (stated_terms d a) key) (can : CanBeOpened d k v later) where
      parts : (not (is_wrong_secret (lock_hashlock d key.lock) key) ≡ true) × (not (is_wrong_path d a d.mode key) ≡ true)
          × (not (is_wrong_signature d d.mode key) ≡ true)
      parts =
          let g = is_good_key can in
          and_three (not (is_wrong_secret (lock_hashlock d key.lock) key)) (not (is_wrong_path d a d.mode key)) (not (is_wrong_signature d d.mode key))
          (g.valid a on)

      secret : is_wrong_secret (terms_hashlock (the_terms later) key.lock) key ≡ false
      secret =
          ap (λ (t : Terms). is_wrong_secret (terms_hashlock t key.lock) key) terms_later
          ∙ not-true-of (is_wrong_secret (lock_hashlock d key.lock) key) parts.0

      in_time : nat_lt (last_unlock d.mode (the_terms later) key) (height later) ≡ false
      in_time =
          ap (λ (t : Terms). nat_lt (last_unlock d.mode t key) (height later)) terms_later
          ∙ not-true (nat_lt (last_unlock d.mode (stated_terms d a) key) (height later)) (λ e.
          let l = ltb-true (last_unlock d.mode (stated_terms d a) key) (height later) e in omega (arith, l, low))

      pub until : history_reply d a later v (Unlock key) ≡ Accepted
      unfolding rows
      until =
          let path = not-true-of (is_wrong_path d a d.mode key) parts.1 in
          let signature = not-true-of (is_wrong_signature d d.mode key) parts.2 in
          let counter = ap not (eq-eqb v (counterparty d a) (sym of_v)) in
          from_clear (rows d a later v (Unlock key))
          (can.room, (there, (ap is_some can.unsettled, (counter, (closed, (secret, (path, (signature, (in_time, tt)))))))))

module _ (d : Deal) (v : ℕ) (w : Wallet) (kept : ℕ → Option Hashkey) (k : Histories) (legal : IsLegalBook d k) (wallet : IsWallet d v w)
    (signs : SignsItsLock w) (good : AreGoodKeys d v kept) where
  by_case : (a : ℕ) (c : Call) (key : Hashkey) → Case d v w kept k a c → c ≡ Unlock key
      → IsLastHeight d k v a key (last_unlock d.mode (stated_terms d a) key)
  by_case a c key (ToPublish i due e) is = absurd (cc (sym e ∙ is))
  by_case a c key (ToClaim i due e) is = absurd (cc (sym e ∙ is))
  by_case a c key (ToRefund i due e) is = absurd (cc (sym e ∙ is))
  by_case a c key (ToUnlock i other below on may due e) is =
      let same : other ≡ key = cc (sym e ∙ is) in
      let due_it : due_key d v w (kept i) k i ≡ Some key = due ∙ ap Some same in
      let lock = due_lock d v w kept k i key legal signs good (origin d v w kept k i key due_it) in
      record {
        until = λ more ticks low can. until d v w kept k a i key legal wallet good below on may due_it lock more ticks low can;
        above = λ more ticks high. above d v w kept k a i key legal wallet good below on may due_it lock more ticks high;
      }

pub unlocks_have_last : UnlocksHaveLast
unlocks_have_last d v at w kept k x key legal wallet signs good i is = (
  last_unlock d.mode (stated_terms d x.arc) key,
  ap (last_accepted d x.arc) is,
  by_case d v w kept k legal wallet signs good x.arc x.call key (case_of d v w kept k x (useful_is_due d v at w kept k x i)) is,
)
