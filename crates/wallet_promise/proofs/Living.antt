-- A wallet's life conducts its party.
use Rattle.std.proofs.Common.{count_by, ◌≡◌, ℕ, ◌+◌, ◌<◌, ◌==◌, Bool, true, false, cond, not, ◌&&◌, ◌||◌, List, [], ◌∷◌, ◌++◌}
use Rattle.std.proofs.Common.{length, Option, Some, None, is_some, is_none, refl, sym, ap, ◌∙◌, subst, inl, inr, arith, eq-eqb, eqb-true, nat_lt, ltb-true}
use Rattle.std.specs.List.{flat_map}
use Rattle.std.proofs.lemmas.Bool.{false≢true}
use Rattle.std.proofs.lemmas.List.Sums.{sum_by-append, sum_by-cons}
use Rattle.swap_base.specs.Lists.{IsElement, moments, IsMoment}
use Rattle.swap_base.proofs.Lists.{first_at, first_given_answer-front, all_moments_front, list_all-from, and_parts, and_both, in_flat_map}
use Rattle.swap_base.proofs.Lists.{in_append, in_range}
use Rattle.swap_base.proofs.Lists.{in_from_moment, moment_from_in, from_whole, at_moment, all_from_list_all}
use Rattle.swap_digraph.specs.declared.deal.Deal.{Deal}
use Rattle.swap_digraph.specs.Graph.{leaving, entering}
use Rattle.swap_digraph.specs.Deal.{lock_hashlock, locks}
use Rattle.hashkey_path.specs.declared.hashkey.Hashkey.{Hashkey}
use Rattle.hashkey_path.specs.Hashkey.{is_valid}
use Rattle.escrow_core.specs.Terms.{stated_terms, same_terms}
use Rattle.ledger_core.specs.declared.entry.Call.{Call}
use Rattle.ledger_core.specs.declared.entry.Call.TheVariants.{Publish, Unlock, Claim, Refund, Transfer}
use Rattle.ledger_core.specs.declared.entry.Entry.{Entry}
use Rattle.ledger_core.specs.History.{height, accepted, publication, published, settled, IsLegal, IsLegalMoment}
use Rattle.ledger_core.specs.Book.{Histories, history, IsLegalBook}
use Rattle.ledger_core.proofs.History.{published_done, of_publish, not-true-of}
use Rattle.swap_rules.specs.Accepted.{IsAccepted}
use Rattle.swap_rules.specs.Party.{has_expired, is_correct, is_ready, is_triggered, leads_one, pick_call, unlock_hashkey, first_key}
use Rattle.swap_rules.specs.Conduct.{is_publish, is_first_key, keeps, keeps_entry, IsConducted}
use Rattle.swap_rules.specs.Due.{Wallet, has_called, unlocks_lock, is_claiming, is_due_publish, may_unlock, is_due_claim, is_due_refund, due}
use Rattle.swap_rules.specs.Due.{is_refunding, due_arc_unlock, due_key, presented, due_unlocks, due_publishes, due_claims, due_refunds}
use Rattle.swap_rules.specs.declared.finding.Rule.{Rule}
use Rattle.swap_rules.specs.declared.finding.Rule.TheVariants.{Publish as OfPublish, Unlock as OfUnlock, Claim as OfClaim, Refund as OfRefund}
use Rattle.swap_rules.specs.Late.{reference_height, is_past_due, is_done}
use Rattle.swap_rules.specs.Machine.{Begins, Knows, KeepsOwn, KeepsRules, IsWallet, rule_test, noted}
use Rattle.swap_rules.proofs.Room.{rules_leave_room}
use Rattle.swap_rules.proofs.Rounds.{Informed, informed_done, nothing_due}
use Rattle.swap_rules.specs.Laws.{IsOnTime}
use Rattle.swap_rules.proofs.Accepted.{times_law}
use Rattle.swap_rules.proofs.Cases.{Case, ToPublish, ToUnlock, ToClaim, ToRefund, case_of}
use Rattle.swap_rules.proofs.Conducting.{from_moments, below_of, count_single, first_signed}
use Rattle.swap_rules.proofs.Due.{knows_call}
use Rattle.swap_rules.proofs.DueKeys.{OwnTerms, key_rule}
use Rattle.swap_rules.proofs.Expiry.{still_expired}
use Rattle.swap_rules.proofs.Growth.{Grows, triggered-more, is_published-more, correct_published, is_ready-more, ready_good, may-more}
use Rattle.swap_rules.proofs.Prefixes.{begins_height, in_any, moment_more}
use Rattle.swap_rules.proofs.Refunds.{every_book_is_safe}
use Rattle.swap_rules.proofs.Words.{act_of, pick_call-act, key_parts, same_key-refl, same_key-true, same_terms-refl, and_three, and_five, leaves}
use Rattle.wallet_promise.specs.Life.{Asking, nothing_kept, is_kept, IsTold, IsAnswered, IsLife, MayKeep, MayGo}
use Rattle.wallet_promise.specs.Life.{HasRested}
use Rattle.wallet_promise.specs.Laws.{LifeConducts, LifeIsSafe, OneHashkey, AskedIsNotKept, NothingIsLost, ToldIsOnce}
use Rattle.wallet_promise.specs.Laws.{TwiceIsBroken, TwoKeysAreBroken, KeptMayGo}
use Rattle.wallet_promise.specs.Laws.{LifeLeavesRoom, PatienceLeavesRoom, AttentiveIsSafe, LedgersHoldKeys}
use Rattle.wallet_promise.proofs.Keys.{Keeps, of_unlock_due, is_new, journal_keeps, kept_state}

-- What each call of a life keeps, whenever it lands and however often.

module _ (d : Deal) (v : ℕ) (w : Wallet) (b : Histories) (askings : List Asking) (kept : ℕ → Option Hashkey) (acc : IsAccepted d) (legal : IsLegalBook d b)
    (wallet : IsWallet d v w) (life : IsLife d v w b askings kept) where
  legal_on : (a : ℕ) → a < length d.graph.arcs → IsLegal d a (history b a)
  legal_on a l = legal.legal a (rw legal.one_each l)

  case_at : (a : ℕ) (past : List Entry) (c : Call) (i : IsAnswered d v w askings a past c) → Case d v w i.asking.kept i.asking.known a c
  case_at a past c i = case_of d v w i.asking.kept i.asking.known (record { arc = a; call = c }) i.may.is_due

  -- what v published on a leaving arc is correct
  own_terms : OwnTerms d b v
  own_terms c p i e =
      let l = leaves d v c i in
      let done = published_done d c (history b c) p (legal_on c l.0) e in
      let by : done.act.by ≡ v = (of_publish d c done.past done.act.by p.terms done.clear).party ∙ l.1 in
      let k = life.calls c done.past done.now (Publish p.terms) done.stands
      (pick_call-act d c done.past done.now (Publish p.terms) v done.act by) in
      terms (case_at c done.past (Publish p.terms) k)
    where
      terms : {s : ℕ → Option Hashkey} {n : Histories} → Case d v w s n c (Publish p.terms) → p.terms ≡ stated_terms d c
      terms (ToPublish j t q) = cc q
      terms (ToUnlock j key l en may t q) = absurd (cc q)
      terms (ToClaim j t q) = absurd (cc q)
      terms (ToRefund j t q) = absurd (cc q)

  keeping : Keeps d v w b legal wallet own_terms nothing_kept askings kept
  keeping = journal_keeps d v w b legal wallet own_terms nothing_kept askings kept life.told (λ i key e. absurd (cc e)) life.journal

  -- an unlock of v carries the hashkey that is kept for its lock
  pub one_key : (a : ℕ) (past : List Entry) (e : Entry) (key : Hashkey) → IsMoment (history b a) past e → pick_call v e ≡ Some (Unlock key)
      → kept key.lock ≡ Some key
  one_key a past e key m k =
      let i = life.calls a past e (Unlock key) m k in
      let good = keeping.each i.asking i.asked in
      let u = of_unlock_due d v w b legal wallet own_terms i.asking a key (life.told i.asking i.asked) good (case_at a past (Unlock key) i) in
      let s = there (i.asking.kept key.lock) i.may.was_kept in
      keeping.lasts i.asking i.asked key.lock key (s.1 ∙ ap (λ z. Some z) (u.1 s.0 s.1))
    where
      there : (o : Option Hashkey) → is_first_key o key ≡ true → (old : Hashkey) × (o ≡ Some old)
      there None t = absurd (cc t)
      there (Some old) t = (old, refl)

  pub new_one : (q : Asking) (key : Hashkey) → IsElement q askings → MayKeep d v w q key → q.kept key.lock ≡ None
  new_one q key i e = (is_new d v w b legal wallet own_terms q key (life.told q i) (keeping.each q i) e).free

  pub last_one : (q : Asking) (i : ℕ) (key : Hashkey) → IsElement q askings → q.kept i ≡ Some key → kept i ≡ Some key
  last_one q i key j e = keeping.lasts q j i key e

  publish_kept : (a : ℕ) (past : List Entry) (e : Entry) (known : Histories) → IsMoment (history b a) past e → pick_call v e ≡ Some (Publish (stated_terms d a))
      → Grows known b → is_due_publish d v known a ≡ true → keeps d b v a past e.height (Some (Publish (stated_terms d a))) ≡ true
  unfolding keeps is_due_publish
  publish_kept a past e known m k grows t =
      let r = and_parts (leads_one d v || is_ready d known v) (not (has_called v is_publish (history known a))) t in
      let one = count_single (λ e. is_publish (pick_call v e)) (history b a) past e m (ap is_publish k) (λ q y n p. life.once a q y n p) in
      and_both (same_terms (stated_terms d a) (stated_terms d a) && (count_by (λ e. is_publish (pick_call v e)) (history b a) == 1)) _
      (and_both (same_terms (stated_terms d a) (stated_terms d a)) _ (same_terms-refl (stated_terms d a)) (eq-eqb _ 1 one)) (may-more d known b v grows r.0)

  unlock_kept : (a : ℕ) (past : List Entry) (e : Entry) (known : Histories) (i : ℕ) (key : Hashkey) → IsMoment (history b a) past e
      → pick_call v e ≡ Some (Unlock key) → Grows known b → Begins (history known a) past → IsElement a (entering d.graph v) → may_unlock d v known i a ≡ true
      → keeps d b v a past e.height (Some (Unlock key)) ≡ true
  unfolding keeps
  unlock_kept a past e known i key m k grows later en may =
      let t = and_parts (is_ready d known v) (not (has_called v (unlocks_lock i) (history known a))) may in
      let kr = keeping.good key.lock key (one_key a past e key m k) in
      and_both (is_some (published past) && is_ready d b v && is_first_key (first_key b v key.lock) key && is_valid d a (lock_hashlock d key.lock) key) _
      (and_both (is_some (published past) && is_ready d b v && is_first_key (first_key b v key.lock) key) _
      (and_both (is_some (published past) && is_ready d b v) _
      (and_both (is_some (published past)) _
      (is_published-more (history known a) past later (correct_published d known a (and_parts (is_correct d known a) _ (ready_good d known v a t.0 en)).0))
      (is_ready-more d known b v grows t.0))
      (first_signed b v kept one_key key a past e m k))
      (kr.good.valid a en))
      kr.origin

  claim_kept : (a : ℕ) (past : List Entry) (at : ℕ) (known : Histories) → Begins (history known a) past → is_due_claim d v known a ≡ true
      → keeps d b v a past at (Some Claim) ≡ true
  unfolding keeps is_due_claim
  claim_kept a past at known later t =
      let k = and_three (is_correct d known a) (is_triggered d known a) (not (has_called v is_claiming (history known a))) t in
      triggered-more d (history known a) past later k.1

  refund_kept : (a : ℕ) (past : List Entry) (e : Entry) (known : Histories) → IsMoment (history b a) past e → pick_call v e ≡ Some Refund
      → Begins (history known a) past → IsElement a (leaving d.graph v) → is_due_refund d v known a ≡ true
      → keeps d b v a past e.height (Some Refund) ≡ true
  unfolding keeps is_due_refund
  refund_kept a past e known m q later out t =
      let k =
      and_five (is_some (published (history known a))) (is_none (settled (history known a))) (not (is_triggered d known a))
      (has_expired d a (history known a) (height (history known a))) _ t in
      let l = leaves d v a out in
      let x = act_of d a (history b a) past e Refund v (legal_on a l.0) m q in
      let at : e.height ≡ height past = x.0.at in
      let past_legal : IsLegal d a past = all_moments_front (IsLegalMoment d a) past (e ∷ m.0) (subst (IsLegal d a) m.1 (legal_on a l.0)) in
      let up = begins_height (history known a) past later in
      let r =
      still_expired d (times_law d acc) a l.0 (history known a) past past_legal later
      (λ p z. own_terms a p out (ap published m.1 ∙ first_given_answer-front (λ e. publication e.height (accepted e)) past (e ∷ m.0) p z))
      (height (history known a)) (height past) k.3 (omega arith) up in
      subst (λ n. has_expired d a past n ≡ true) (sym at) r

  keep_case : (a : ℕ) (past : List Entry) (e : Entry) (c : Call) (q : Asking) → IsMoment (history b a) past e → pick_call v e ≡ Some c → IsTold b q
      → Begins (history q.known a) past → Case d v w q.kept q.known a c → keeps d b v a past e.height (Some c) ≡ true
  keep_case a past e c q m k told later (ToPublish i t z) =
      subst (λ y. keeps d b v a past e.height (Some y) ≡ true) (sym z)
      (publish_kept a past e q.known m (k ∙ ap (λ y. Some y) z) told t)
  keep_case a past e c q m k told later (ToUnlock i key below en may t z) =
      subst (λ y. keeps d b v a past e.height (Some y) ≡ true) (sym z)
      (unlock_kept a past e q.known i key m (k ∙ ap (λ y. Some y) z) told later en may)
  keep_case a past e c q m k told later (ToClaim i t z) =
      subst (λ y. keeps d b v a past e.height (Some y) ≡ true) (sym z) (claim_kept a past e.height q.known later t)
  keep_case a past e c q m k told later (ToRefund i t z) =
      subst (λ y. keeps d b v a past e.height (Some y) ≡ true) (sym z)
      (refund_kept a past e q.known m (k ∙ ap (λ y. Some y) z) later i t)

  keep_at : (a : ℕ) (past : List Entry) (e : Entry) → IsMoment (history b a) past e → (o : Option Call) → pick_call v e ≡ o
      → keeps d b v a past e.height o ≡ true
  unfolding keeps
  keep_at a past e m None k = refl
  keep_at a past e m (Some c) k =
      let i = life.calls a past e c m k in
      keep_case a past e c i.asking m k (life.told i.asking i.asked) i.later (case_at a past c i)

  pub conducts : IsConducted d b v
  conducts a = list_all-from (keeps_entry d b v a) (moments (history b a)) (λ m i. keep_at a m.past m.now (from_moments (history b a) m i)
      (pick_call v m.now) refl)

  -- A call is the first of its kind, where what was told of its ledger holds what stands there
  -- before it.
  pub patient_first : (a : ℕ) (past : List Entry) (c : Call) (i : IsAnswered d v w askings a past c) → Knows v (history i.asking.known a) past → (r : Rule)
      → rule_test r (Some c) ≡ true → has_called v (rule_test r) past ≡ false
  unfolding is_due_publish is_due_claim is_due_refund
  patient_first a past c i kn r h = first (case_at a past c i) r h
    where
      other : (x : Call) (r : Rule) → c ≡ x → rule_test r (Some x) ≡ false → rule_test r (Some c) ≡ true → has_called v (rule_test r) past ≡ false
      other x r q f h = absurd (false≢true (sym f ∙ (ap (λ y. rule_test r (Some y)) (sym q) ∙ h)))

      first : Case d v w i.asking.kept i.asking.known a c → (r : Rule) → rule_test r (Some c) ≡ true → has_called v (rule_test r) past ≡ false
      first (ToPublish j t q) OfPublish h =
          let k = and_parts (leads_one d v || is_ready d i.asking.known v) (not (has_called v is_publish (history i.asking.known a))) t in
          knows_call v is_publish (history i.asking.known a) past refl kn (not-true-of _ k.1)
      first (ToPublish j t q) (OfUnlock l) h = other (Publish (stated_terms d a)) (OfUnlock l) q refl h
      first (ToPublish j t q) OfClaim h = other (Publish (stated_terms d a)) OfClaim q refl h
      first (ToPublish j t q) OfRefund h = other (Publish (stated_terms d a)) OfRefund q refl h
      first (ToUnlock j key low en may t q) OfPublish h = other (Unlock key) OfPublish q refl h
      first (ToUnlock j key low en may t q) (OfUnlock l) h =
          let good = keeping.each i.asking i.asked in
          let told = life.told i.asking i.asked in
          let lock : key.lock ≡ j = (key_rule d v w b legal wallet own_terms i.asking.kept i.asking.known good told j key low t).good.lock in
          let same : key.lock ≡ l = eqb-true key.lock l (ap (λ y. unlocks_lock l (Some y)) (sym q) ∙ h) in
          let k = and_parts (is_ready d i.asking.known v) (not (has_called v (unlocks_lock j) (history i.asking.known a))) may in
          subst (λ n. has_called v (unlocks_lock n) past ≡ false) (sym lock ∙ same)
          (knows_call v (unlocks_lock j) (history i.asking.known a) past refl kn (not-true-of _ k.1))
      first (ToUnlock j key low en may t q) OfClaim h = other (Unlock key) OfClaim q refl h
      first (ToUnlock j key low en may t q) OfRefund h = other (Unlock key) OfRefund q refl h
      first (ToClaim j t q) OfPublish h = other Claim OfPublish q refl h
      first (ToClaim j t q) (OfUnlock l) h = other Claim (OfUnlock l) q refl h
      first (ToClaim j t q) OfClaim h =
          let k =
          and_three (is_correct d i.asking.known a) (is_triggered d i.asking.known a) (not (has_called v is_claiming (history i.asking.known a))) t in
          knows_call v is_claiming (history i.asking.known a) past refl kn (not-true-of _ k.2)
      first (ToClaim j t q) OfRefund h = other Claim OfRefund q refl h
      first (ToRefund j t q) OfPublish h = other Refund OfPublish q refl h
      first (ToRefund j t q) (OfUnlock l) h = other Refund (OfUnlock l) q refl h
      first (ToRefund j t q) OfClaim h = other Refund OfClaim q refl h
      first (ToRefund j t q) OfRefund h =
          let k =
          and_five (is_some (published (history i.asking.known a))) (is_none (settled (history i.asking.known a))) (not (is_triggered d i.asking.known a))
          (has_expired d a (history i.asking.known a) (height (history i.asking.known a))) _ t in
          knows_call v is_refunding (history i.asking.known a) past refl kn (not-true-of _ k.4)

  -- An unlock whose hashkey was kept is due as before.
  pub goes : (q : Asking) (key : Hashkey) → IsElement q askings → (k : MayKeep d v w q key)
      → MayGo d v w (record { known = q.known; kept = noted q.kept (Unlock key) }) k.unlock
  unfolding due due_arc_unlock due_key
  goes q key j k =
      record { is_due = again (case_of d v w q.kept q.known k.unlock k.is_due); was_kept = ap (is_kept (noted q.kept (Unlock key))) call ∙ first_kept }
    where
      call : k.unlock.call ≡ Unlock key
      call = (kept_state q.kept k.unlock key k.asks).0

      first_kept : is_first_key (noted q.kept (Unlock key) key.lock) key ≡ true
      first_kept = ap (λ x. is_first_key (cond x (Some key) (q.kept key.lock)) key) (eq-eqb key.lock key.lock refl) ∙ same_key-refl key

      again : Case d v w q.kept q.known k.unlock.arc k.unlock.call → IsElement k.unlock (due d v w (noted q.kept (Unlock key)) q.known)
      again (ToPublish i t z) = absurd (cc (sym call ∙ z))
      again (ToClaim i t z) = absurd (cc (sym call ∙ z))
      again (ToRefund i t z) = absurd (cc (sym call ∙ z))
      again (ToUnlock i other low en may t z) =
          let same : other ≡ key = cc (sym z ∙ call) in
          let t2 : due_key d v w (q.kept i) q.known i ≡ Some key = t ∙ ap (λ y. Some y) same in
          let lock : key.lock ≡ i =
          (key_rule d v w b legal wallet own_terms q.kept q.known (keeping.each q j) (life.told q j) i key low t2).good.lock in
          let now : noted q.kept (Unlock key) i ≡ Some key = ap (λ x. cond x (Some key) (q.kept i)) (eq-eqb i key.lock (sym lock)) in
          let here : IsElement k.unlock (due_arc_unlock d v w (noted q.kept (Unlock key) i) q.known i k.unlock.arc) =
          subst (λ s. IsElement k.unlock (due_arc_unlock d v w s q.known i k.unlock.arc)) (sym now)
          (subst (λ x. IsElement k.unlock (cond x (presented k.unlock.arc (Some key)) [])) (sym may) (inl (ap (λ c. record { arc = k.unlock.arc; call = c }) call)))
          in
          let inner = in_flat_map (due_arc_unlock d v w (noted q.kept (Unlock key) i) q.known i) (entering d.graph v) k.unlock.arc k.unlock en here in
          let all : IsElement k.unlock (due_unlocks d v w (noted q.kept (Unlock key)) q.known) =
          in_flat_map (λ i. flat_map (due_arc_unlock d v w (noted q.kept (Unlock key) i) q.known i) (entering d.graph v)) (locks d) i k.unlock
          (in_range i (length d.leaders) low) inner in
          let two = in_append (due_publishes d v q.known) (due_unlocks d v w (noted q.kept (Unlock key)) q.known) k.unlock (inr all) in
          let three =
          in_append (due_publishes d v q.known ++ due_unlocks d v w (noted q.kept (Unlock key)) q.known) (due_claims d v q.known) k.unlock (inl two) in
          in_append (due_publishes d v q.known ++ due_unlocks d v w (noted q.kept (Unlock key)) q.known ++ due_claims d v q.known) (due_refunds d v q.known)
          k.unlock (inl three)

  -- Where each call is the first of its kind.
  module _ (first_one : (a : ℕ) (past : List Entry) (e : Entry) (c : Call) → IsMoment (history b a) past e → pick_call v e ≡ Some c
      → (r : Rule) → rule_test r (Some c) ≡ true → has_called v (rule_test r) past ≡ false) where
    enters_at : {s : ℕ → Option Hashkey} {n : Histories} (a : ℕ) (key : Hashkey) → Case d v w s n a (Unlock key) → IsElement a (entering d.graph v)
    enters_at a key (ToPublish j t q) = absurd (cc q)
    enters_at a key (ToUnlock j k l en may t q) = en
    enters_at a key (ToClaim j t q) = absurd (cc q)
    enters_at a key (ToRefund j t q) = absurd (cc q)

    own : (a : ℕ) (past : List Entry) (e : Entry) (c : Call) → IsMoment (history b a) past e → pick_call v e ≡ Some c
        → keeps d b v a past e.height (Some c) ≡ true → KeepsOwn d b kept v a past c
    unfolding keeps
    own a past e (Publish t) m k r =
        let r1 = and_parts (same_terms t (stated_terms d a) && (count_by (λ e. is_publish (pick_call v e)) (history b a) == 1)) _ r in
        ((and_parts (same_terms t (stated_terms d a)) _ r1.0).0, r1.1, first_one a past e (Publish t) m k OfPublish refl)
    own a past e (Unlock key) m k r =
        let r1 =
        and_parts (is_some (published past) && is_ready d b v && is_first_key (first_key b v key.lock) key && is_valid d a (lock_hashlock d key.lock) key) _ r
        in
        let r2 = and_parts (is_some (published past) && is_ready d b v && is_first_key (first_key b v key.lock) key) _ r1.0 in
        let r3 = and_parts (is_some (published past) && is_ready d b v) _ r2.0 in
        let r4 = and_parts (is_some (published past)) _ r3.0 in
        let i = life.calls a past e (Unlock key) m k in (
          r4.0,
          r4.1,
          one_key a past e key m k,
          enters_at a key (case_at a past (Unlock key) i),
          first_one a past e (Unlock key) m k (OfUnlock key.lock) (eq-eqb key.lock key.lock refl),
        )
    own a past e Claim m k r = (r, first_one a past e Claim m k OfClaim refl)
    own a past e Refund m k r =
        let x = act_of d a (history b a) past e Refund v (legal.legal a (below_of b a past e m)) m k in
        let at : e.height ≡ height past = x.0.at in
        (subst (λ n. has_expired d a past n ≡ true) at r, first_one a past e Refund m k OfRefund refl)
    own a past e (Transfer to units) m k r = absurd (false≢true r)

    pub keeps_rules : KeepsRules d b kept v
    keeps_rules = record {
      own = λ a past e c m k. own a past e c m k (subst (λ o. keeps d b v a past e.height o ≡ true) k (keep_at a past e m (pick_call v e) refl));
      keys = keeping.good;
    }

pub life_conducts : LifeConducts
life_conducts d v w b askings kept acc legal wallet life = conducts d v w b askings kept acc legal wallet life

pub life_is_safe : LifeIsSafe
life_is_safe d v w b askings kept acc legal wallet life ended on_time =
    every_book_is_safe d b v acc legal (λ a i. ended a (inr i)) (λ a i. ended a (inl i))
    (life_conducts d v w b askings kept acc legal wallet life) on_time

pub life_leaves_room : LifeLeavesRoom
life_leaves_room d v w b askings kept acc legal wallet life first_one a =
    rules_leave_room d b kept v a acc legal (keeps_rules d v w b askings kept acc legal wallet life first_one)

pub patience_leaves_room : PatienceLeavesRoom
patience_leaves_room d v w b askings kept acc legal wallet life patient a =
    life_leaves_room d v w b askings kept acc legal wallet life (λ a past e c m k r h.
    let i = patient a past e c m k in patient_first d v w b askings kept acc legal wallet life a past c i.0 i.1 r h) a

pub attentive_is_safe : AttentiveIsSafe
attentive_is_safe d v w b askings kept acc legal wallet life attends = (
  on_time,
  λ ended. every_book_is_safe d b v acc legal (λ a i. ended a (inr i)) (λ a i. ended a (inl i)) conducted on_time,
)
  where
    conducted : IsConducted d b v
    conducted = life_conducts d v w b askings kept acc legal wallet life

    informed : (ref : ℕ) → HasRested d v w askings ref (ref + d.delta) → Informed d b v w ref (ref + d.delta)
    informed ref t = record {
      known = t.asking.known;
      signed = t.asking.kept;
      grows = life.told t.asking t.asked;
      idle = nothing_due d v w t.asking.kept t.asking.known t.rests;
      low = t.past;
      high = t.soon;
    }

    on_time : IsOnTime d b v
    on_time rule a i j = go (reference_height d b v rule a) refl
      where
        at : (ref : ℕ) → reference_height d b v rule a ≡ Some ref → (x : Bool) → nat_lt (ref + d.delta) (height (history b a)) ≡ x
            → (x && not (is_done d b v rule a (ref + d.delta))) ≡ false
        at ref e false h = refl
        at ref e true h =
            ap not (informed_done d b v w ref (ref + d.delta) acc legal conducted
            (informed ref (attends rule a ref i j e (ltb-true (ref + d.delta) (height (history b a)) h))) rule a i e)

        go : (o : Option ℕ) → reference_height d b v rule a ≡ o → is_past_due d b v rule a o ≡ false
        go None e = refl
        go (Some ref) e = at ref e (nat_lt (ref + d.delta) (height (history b a))) refl

pub ledgers_hold_keys : LedgersHoldKeys
unfolding first_key
ledgers_hold_keys d v w b askings kept acc legal wallet life known i key grows e =
    let f = first_at (λ e. unlock_hashkey i (pick_call v e)) (flat_map (λ h. h) known) key e in
    let p = key_parts i (pick_call v f.now) key f.gives in
    let x = from_whole known f.now (subst (IsElement f.now) (sym f.stands.1) (in_from_moment f.past f.now f.stands.0)) in
    let n = moment_from_in (history known x.0) f.now x.2 in
    let m = moment_more (history known x.0) (history b x.0) n.0 f.now (grows x.0) n.1 in
    subst (λ j. kept j ≡ Some key) p.1 (one_key d v w b askings kept acc legal wallet life x.0 n.0 f.now key m p.0)

pub one_hashkey : OneHashkey
one_hashkey d v w b askings kept acc legal wallet life a past e key m k = one_key d v w b askings kept acc legal wallet life a past e key m k

pub asked_is_not_kept : AskedIsNotKept
asked_is_not_kept d v w b askings kept acc legal wallet life q key i e = new_one d v w b askings kept acc legal wallet life q key i e

pub kept_may_go : KeptMayGo
kept_may_go d v w b askings kept acc legal wallet life q key i k = goes d v w b askings kept acc legal wallet life q key i k

pub nothing_is_lost : NothingIsLost
nothing_is_lost d v w b askings kept acc legal wallet life q i key j e = last_one d v w b askings kept acc legal wallet life q i key j e

pub told_is_once : ToldIsOnce
unfolding is_due_publish
told_is_once d v w askings a past c i kn t =
    go (case_of d v w i.asking.kept i.asking.known (record { arc = a; call = c }) i.may.is_due)
  where
    not_publish : (x : Call) → is_publish (Some x) ≡ false → c ≡ x → has_called v is_publish past ≡ false
    not_publish x e z = absurd (false≢true (sym e ∙ (ap (λ y. is_publish (Some y)) (sym z) ∙ t)))

    fresh : is_due_publish d v i.asking.known a ≡ true → has_called v is_publish past ≡ false
    fresh e =
        let k = and_parts (leads_one d v || is_ready d i.asking.known v) (not (has_called v is_publish (history i.asking.known a))) e in
        knows_call v is_publish (history i.asking.known a) past refl kn (not-true-of _ k.1)

    go : Case d v w i.asking.kept i.asking.known a c → has_called v is_publish past ≡ false
    go (ToPublish j e z) = fresh e
    go (ToUnlock j key l en may e z) = not_publish (Unlock key) refl z
    go (ToClaim j e z) = not_publish Claim refl z
    go (ToRefund j e z) = not_publish Refund refl z

-- Two publishes are two.

count_some : {A : Type 0} (p : A → Bool) (xs : List A) (x : A) → IsElement x xs → p x ≡ true → (count_by p xs ≡ 0) → ⊥
count_some p [] x i t z = absurd i
count_some p (y ∷ ys) x (inl e) t z =
    let e1 : count_by p (y ∷ ys) ≡ cond (p y) 1 0 + count_by p ys = sum_by-cons (λ z. cond (p z) 1 0) y ys in
    let e2 : ◌≡◌ {A = ℕ} (cond (p y) 1 0) 1 = ap (λ b. cond {A = ℕ} b 1 0) (subst (λ q. p q ≡ true) e t) in
    omega arith
count_some p (y ∷ ys) x (inr i) t z =
    let e1 : count_by p (y ∷ ys) ≡ cond (p y) 1 0 + count_by p ys = sum_by-cons (λ z. cond (p z) 1 0) y ys in
    count_some p ys x i t (omega arith)

pub twice_is_broken : TwiceIsBroken
unfolding keeps
twice_is_broken d b v a past e m t before c =
    go (pick_call v e) refl t
    (at_moment (λ m. keeps_entry d b v a m ≡ true) (history b a) past e (all_from_list_all (keeps_entry d b v a) (moments (history b a)) (c a)) m)
  where
    two : count_by (λ e. is_publish (pick_call v e)) (history b a) ≡ 1 → ⊥
    two one =
        let y = in_any (λ x. is_publish (pick_call v x)) past before in
        let e1 : count_by (λ e. is_publish (pick_call v e)) (history b a) ≡ count_by (λ e. is_publish (pick_call v e)) (past ++ e ∷ m.0) =
        ap (count_by (λ e. is_publish (pick_call v e))) m.1 in
        let e2 : count_by (λ e. is_publish (pick_call v e)) (past ++ e ∷ m.0) ≡ count_by (λ e. is_publish (pick_call v e)) past
        + count_by (λ e. is_publish (pick_call v e)) (e ∷ m.0) =
        sum_by-append (λ z. cond (is_publish (pick_call v z)) 1 0) past (e ∷ m.0) in
        let e3 : count_by (λ e. is_publish (pick_call v e)) (e ∷ m.0) ≡ cond (is_publish (pick_call v e)) 1 0 + count_by (λ e. is_publish (pick_call v e)) m.0 =
        sum_by-cons (λ z. cond (is_publish (pick_call v z)) 1 0) e m.0 in
        let e4 : ◌≡◌ {A = ℕ} (cond (is_publish (pick_call v e)) 1 0) 1 = ap (λ b. cond {A = ℕ} b 1 0) t in
        count_some (λ e. is_publish (pick_call v e)) past y.0 y.1 y.2 (omega arith)

    go : (o : Option Call) → pick_call v e ≡ o → is_publish (pick_call v e) ≡ true → keeps d b v a past e.height (pick_call v e) ≡ true → ⊥
    go None k t r = false≢true (sym (ap is_publish k) ∙ t)
    go (Some (Publish u)) k t r =
        let r1 = ap (keeps d b v a past e.height) (sym k) ∙ r in
        let r2 = and_parts (same_terms u (stated_terms d a) && (count_by (λ e. is_publish (pick_call v e)) (history b a) == 1)) _ r1 in
        two (eqb-true _ 1 (and_parts (same_terms u (stated_terms d a)) _ r2.0).1)
    go (Some (Unlock u)) k t r = false≢true (sym (ap is_publish k) ∙ t)
    go (Some Claim) k t r = false≢true (sym (ap is_publish k) ∙ t)
    go (Some Refund) k t r = false≢true (sym (ap is_publish k) ∙ t)
    go (Some (Transfer u z)) k t r = false≢true (sym (ap is_publish k) ∙ t)

-- Two hashkeys are one.

first_is : (o : Option Hashkey) (key other : Hashkey) → is_first_key o key ≡ true → is_first_key o other ≡ true → key ≡ other
first_is None key other e f = absurd (cc e)
first_is (Some k) key other e f = sym (same_key-true k key e) ∙ same_key-true k other f

conducted_first : (d : Deal) (b : Histories) (v a : ℕ) (past : List Entry) (e : Entry) (key : Hashkey) → IsMoment (history b a) past e
    → pick_call v e ≡ Some (Unlock key) → IsConducted d b v → is_first_key (first_key b v key.lock) key ≡ true
unfolding keeps
conducted_first d b v a past e key m k c =
    let r = at_moment (λ m. keeps_entry d b v a m ≡ true) (history b a) past e (all_from_list_all (keeps_entry d b v a) (moments (history b a)) (c a)) m in
    let r0 : keeps d b v a past e.height (Some (Unlock key)) ≡ true = ap (keeps d b v a past e.height) (sym k) ∙ r in
    let r1 =
    and_parts (is_some (published past) && is_ready d b v && is_first_key (first_key b v key.lock) key && is_valid d a (lock_hashlock d key.lock) key) _ r0 in
    let r2 = and_parts (is_some (published past) && is_ready d b v && is_first_key (first_key b v key.lock) key) _ r1.0 in
    (and_parts (is_some (published past) && is_ready d b v) _ r2.0).1

pub two_keys_are_broken : TwoKeysAreBroken
two_keys_are_broken d b v a c past before e f key other m k n l same conducted =
    first_is (first_key b v key.lock) key other (conducted_first d b v a past e key m k conducted)
    (subst (λ i. is_first_key (first_key b v i) other ≡ true) (sym same) (conducted_first d b v c before f other n l conducted))
