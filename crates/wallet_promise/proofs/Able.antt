-- A party that asks on time finds its hashkey taken by every entering arc.
use Rattle.std.proofs.Common.{◌≡◌, ℕ, ◌+◌, ◌<◌, ◌≤◌, nat_le, Bool, true, false, cond, ◌||◌, max, List, length, Option, Some, None}
use Rattle.std.proofs.Common.{is_none, refl, sym, ap, ◌∙◌, subst, inl, inr, arith, le-leb}
use Rattle.std.proofs.lemmas.Bool.{false≢true}
use Rattle.std.proofs.lemmas.Option.{same_Some}
use Rattle.swap_base.specs.Lists.{or_else, IsElement, IsMoment}
use Rattle.swap_base.proofs.Lists.{first_at, FirstAt, first_given_answer-in, none_in, all_moments_front, Order, moments_in_order, Earlier, Same, Later, list_all-in}
use Rattle.swap_base.proofs.Lists.{in_range, from_range, and_both, in_from_moment, greatest-in}
use Rattle.swap_digraph.specs.declared.deal.Mode.{Mode}
use Rattle.swap_digraph.specs.declared.deal.Mode.TheVariants.{Timelocks, Hashkeys}
use Rattle.swap_digraph.specs.declared.deal.Deal.{Deal}
use Rattle.swap_digraph.specs.Graph.{leaving, entering}
use Rattle.swap_digraph.specs.Deal.{locks, leads, lock_hashlock}
use Rattle.hashkey_path.specs.declared.hashkey.Hashkey.{Hashkey}
use Rattle.hashkey_path.specs.Hashkey.{same_key, is_valid}
use Rattle.escrow_core.specs.Terms.{stated_terms, last_unlock, refund_expiry, terms_hashlock}
use Rattle.ledger_core.specs.declared.entry.Call.TheVariants.{Unlock, Refund}
use Rattle.ledger_core.specs.declared.entry.Entry.{Entry}
use Rattle.ledger_core.specs.declared.facts.Settlement.{Settlement}
use Rattle.ledger_core.specs.declared.facts.Settlement.TheVariants.{Claimed, Refunded}
use Rattle.ledger_core.specs.History.{height, accepted, Opening, opened, settled, is_open, IsLegal, IsLegalMoment}
use Rattle.ledger_core.specs.Book.{Histories, history, IsLegalBook}
use Rattle.ledger_core.proofs.History.{Done, opened_done, claimed_done, refunded_done, of_unlock, of_claim, of_refund, height-past, opened-now, triggered-past}
use Rattle.ledger_core.proofs.History.{is_some-of, lock-below, published-past}
use Rattle.swap_rules.specs.Accepted.{IsAccepted}
use Rattle.swap_rules.specs.Party.{is_ready, ready_height, expiry, least_expiry, first_key, first_seen_key, key_without_party}
use Rattle.swap_rules.specs.Conduct.{IsConducted}
use Rattle.swap_rules.specs.Late.{is_carried, is_used, height_of_opening, unlock_base}
use Rattle.swap_rules.specs.Due.{Wallet, due_key, seen_key, extended}
use Rattle.swap_rules.specs.Machine.{IsWallet, IsDerivedHashkey}
use Rattle.swap_rules.specs.Rounds.{IsNear}
use Rattle.swap_rules.proofs.Accepted.{times_law}
use Rattle.swap_rules.proofs.Calls.{legal_at, correct, correct_past, OwnPublish, own_publish}
use Rattle.swap_rules.proofs.DueKeys.{AreGood, OwnTerms, key_rule}
use Rattle.swap_rules.proofs.Entering.{UnlockCall, valid_of_unlock, opened_by_expiry, correct_entering, opens_own}
use Rattle.swap_rules.proofs.Growth.{Grows, opened-more}
use Rattle.swap_rules.proofs.Openings.{Expired, expired_lock, least-expired}
use Rattle.swap_rules.proofs.Prefixes.{begins_height, moment_more, in_front}
use Rattle.swap_rules.proofs.SafeHashkeys.{used_in}
use Rattle.swap_rules.proofs.Times.{ExpiresEarly}
use Rattle.swap_rules.proofs.Words.{leaves, enters, key_without_parts, same_key-refl}
use Rattle.swap_rules.specs.Useful.{accepts, takes}
use Rattle.wallet_promise.proofs.Early.{Comes, Presented, Put, start_height}
use Rattle.time_bounds.specs.Times as times

module _ (d : Deal) (b : Histories) (v : ℕ) (w : Wallet) (acc : IsAccepted d) (legal : IsLegalBook d b) (conducted : IsConducted d b v)
    (wallet : IsWallet d v w) (known : Histories) (signed : ℕ → Option Hashkey) (at : ℕ → ℕ) (grows : Grows known b) (good : AreGood d b v signed) where
  own : OwnTerms d b v
  own c p i e = OwnPublish.correct (own_publish d b v conducted legal c p i e)

  -- Which hashkey is due.

  -- what was opened on an arc that leaves v by the height ref is known
  opened_known : (ref a i : ℕ) (o : Opening) → IsElement a (leaving d.graph v) → ref < height (history known a) → opened (history b a) i ≡ Some o → o.height ≤ ref
      → opened (history known a) i ≡ Some o
  opened_known ref a i o l up e low =
      let u = opened_done d a (history b a) i o (legal_at d b v conducted legal a (leaves d v a l).0) e in
      let at : o.height ≡ height u.0.past = u.0.at in
      let m = in_front (history known a) (history b a) u.0.past u.0.now (grows a) u.0.stands (omega arith) in
      let s : is_open (history known a) i ≡ true =
      subst (λ j. is_open (history known a) j ≡ true) u.1 (opened-now (history known a) u.0.past u.0.now o.key m u.0.took) in
      let q = is_some-of (opened (history known a) i) s in
      q.1 ∙ (sym (opened-more (history known a) (history b a) i q.0 (grows a) q.1) ∙ e)

  -- the opening that v would extend stands by the base height
  opening_low : (m : Mode) → d.mode ≡ m → (ref a i : ℕ) (z : Hashkey) (o : Opening) → IsElement a (leaving d.graph v) → first_seen_key d b v i ≡ Some z
      → opened (history b a) i ≡ Some o → o.key ≡ z → unlock_base m d b v i None ≤ ref → o.height ≤ ref
  opening_low Timelocks em ref a i z o l s e q low =
      let h = greatest-in (λ a. height_of_opening (opened (history b a) i)) (leaving d.graph v) a l in
      let at : height_of_opening (opened (history b a) i) ≡ o.height = ap height_of_opening e in
      omega arith
  opening_low Hashkeys em ref a i z o l s e q low =
      let u = opened_done d a (history b a) i o (legal_at d b v conducted legal a (leaves d v a l).0) e in
      let carried : is_used d b v i None u.0.now ≡ true =
      ap (λ y. is_carried y (accepted u.0.now)) s ∙ (ap (is_carried (Some z)) u.0.took ∙ (ap (λ k. same_key k o.key) (sym q) ∙ same_key-refl o.key)) in
      let h =
      used_in d b v (is_used d b v i None) a u.0.now l (subst (IsElement u.0.now) (sym u.0.stands.1) (in_from_moment u.0.past u.0.now u.0.stands.0)) carried in
      let at : o.height ≡ height u.0.past = u.0.at in
      let at2 : u.0.now.height ≡ height u.0.past = u.0.act.at in
      omega arith

  -- what v sees first of a lock is what the book shows first
  seen_same : (ref i : ℕ) (inner : Hashkey) → ((c : ℕ) → IsNear d v c → ref < height (history known c)) → unlock_base d.mode d b v i None ≤ ref
      → first_seen_key d known v i ≡ Some inner → first_seen_key d b v i ≡ Some inner
  seen_same ref i inner past low e =
      let f = first_at (λ a. key_without_party v (opened (history known a) i)) (leaving d.graph v) inner e in
      let on : IsElement f.now (leaving d.graph v) = subst (IsElement f.now) (sym f.stands.1) (in_from_moment f.past f.now f.stands.0) in
      let p = key_without_parts v (opened (history known f.now) i) inner f.gives in
      let o : opened (history b f.now) i ≡ Some p.0 = opened-more (history known f.now) (history b f.now) i p.0 (grows f.now) p.1 in
      let shown : key_without_party v (opened (history b f.now) i) ≡ Some inner = ap (key_without_party v) (o ∙ sym p.1) ∙ f.gives in
      let s =
      is_some-of (first_seen_key d b v i)
      (first_given_answer-in (λ a. key_without_party v (opened (history b a) i)) (leaving d.graph v) f.now inner on shown) in
      let g = first_at (λ a. key_without_party v (opened (history b a) i)) (leaving d.graph v) s.0 s.1 in
      s.1 ∙ ap Some (one f shown s.0 s.1 g (moments_in_order (leaving d.graph v) f.past g.past f.now g.now f.stands g.stands))
    where
      one : (f : FirstAt (λ a. key_without_party v (opened (history known a) i)) (leaving d.graph v) inner)
          → key_without_party v (opened (history b f.now) i) ≡ Some inner → (z : Hashkey) → first_seen_key d b v i ≡ Some z
          → (g : FirstAt (λ a. key_without_party v (opened (history b a) i)) (leaving d.graph v) z) → Order f.past f.now g.past g.now → z ≡ inner
      one f shown z s g (Same p q) =
          same_Some z inner (sym g.gives ∙ (ap (λ a. key_without_party v (opened (history b a) i)) (sym q) ∙ shown))
      one f shown z s g (Earlier m) =
          let none =
          none_in (λ a. key_without_party v (opened (history b a) i)) g.past f.now g.none
          (subst (IsElement f.now) (sym m.1) (in_from_moment f.past f.now m.0)) in
          absurd (cc (sym none ∙ shown))
      one f shown z s g (Later m) =
          let on : IsElement g.now (leaving d.graph v) = subst (IsElement g.now) (sym g.stands.1) (in_from_moment g.past g.now g.stands.0) in
          let p = key_without_parts v (opened (history b g.now) i) z g.gives in
          let early = opening_low d.mode refl ref g.now i z p.0 on s p.1 p.2 low in
          let k = opened_known ref g.now i p.0 on (past g.now (inl on)) p.1 early in
          let gives : key_without_party v (opened (history known g.now) i) ≡ Some z = ap (key_without_party v) (k ∙ sym p.1) ∙ g.gives in
          let none =
          none_in (λ a. key_without_party v (opened (history known a) i)) f.past g.now f.none
          (subst (IsElement g.now) (sym m.1) (in_from_moment g.past g.now m.0)) in
          absurd (cc (sym none ∙ gives))

  -- what v puts onto a hashkey that it sees is made from that one
  put_on : (i : ℕ) (inner : Hashkey) → first_seen_key d known v i ≡ Some inner → IsDerivedHashkey d.mode v inner (w.onto inner)
  put_on i inner e =
      let x = first_at (λ a. key_without_party v (opened (history known a) i)) (leaving d.graph v) inner e in
      let c : IsElement x.now (leaving d.graph v) = subst (IsElement x.now) (sym x.stands.1) (in_from_moment x.past x.now x.stands.0) in
      let p = key_without_parts v (opened (history known x.now) i) inner x.gives in
      let o : opened (history b x.now) i ≡ Some p.0 = opened-more (history known x.now) (history b x.now) i p.0 (grows x.now) p.1 in
      let u = opened_done d x.now (history b x.now) i p.0 (legal_at d b v conducted legal x.now (leaves d v x.now c).0) o in
      let of_u = of_unlock d x.now u.0.past u.0.act.by p.0.key u.0.clear in
      let terms : of_u.contract.terms ≡ stated_terms d x.now =
      own x.now of_u.contract c (published-past (history b x.now) u.0.past u.0.now of_u.contract u.0.stands of_u.published) in
      let valid : is_valid d x.now (lock_hashlock d p.0.key.lock) p.0.key ≡ true =
      subst (λ t. is_valid d x.now (terms_hashlock t p.0.key.lock) p.0.key ≡ true) terms (valid_of_unlock d x.now u.0.past u.0.act.by p.0.key of_u) in
      subst (λ z. IsDerivedHashkey d.mode v z (w.onto z)) p.2
      (wallet.onto x.now p.0.key c (lock-below d x.now p.0.key u.0.act.fits) valid p.3).1

  -- the hashkey that is due comes from what the book shows
  pub comes : (ref i : ℕ) (key : Hashkey) → ((c : ℕ) → IsNear d v c → ref < height (history known c)) → start_height d b v acc legal conducted i ≤ ref
      → signed i ≡ first_key b v i → due_key d v w (signed i) known i ≡ Some key → leads d v i ≡ false → Comes d b v i key
  unfolding due_key seen_key
  comes ref i key past start handed e follows = go (signed i) refl e
    where
      low : first_key b v i ≡ None → unlock_base d.mode d b v i None ≤ ref
      low n =
          let s : max (ready_height d b v) (unlock_base d.mode d b v i (first_key b v i)) ≤ ref =
          subst (λ x. cond x (ready_height d b v) (max (ready_height d b v) (unlock_base d.mode d b v i (first_key b v i))) ≤ ref) follows start in
          subst (λ o. unlock_base d.mode d b v i o ≤ ref) n (omega arith)

      onto : (o : Option Hashkey) → first_seen_key d known v i ≡ o → first_key b v i ≡ None → extended w o ≡ Some key → Comes d b v i key
      onto None q n k = absurd (cc k)
      onto (Some inner) q n k =
          Put inner n (seen_same ref i inner past (low n) q)
          (subst (λ z. IsDerivedHashkey d.mode v inner z) (same_Some (w.onto inner) key k) (put_on i inner q))

      go : (s : Option Hashkey) → signed i ≡ s → or_else s (cond (leads d v i) (Some (w.first i)) (extended w (first_seen_key d known v i))) ≡ Some key
          → Comes d b v i key
      go (Some z) q k = Presented (sym handed ∙ (q ∙ k))
      go None q k =
          onto (first_seen_key d known v i) refl (sym handed ∙ q)
          (ap (λ x. cond x (Some (w.first i)) (extended w (first_seen_key d known v i))) (sym follows) ∙ k)

  -- Settled contracts.

  module _ (ready : is_ready d b v ≡ true) where
    legal_known : (c : ℕ) → IsElement c (entering d.graph v) → IsLegal d c (history known c)
    legal_known c j =
        all_moments_front (IsLegalMoment d c) (history known c) (grows c).0
        (subst (IsLegal d c) (grows c).1 (legal_at d b v conducted legal c (enters d v c j).0))

    -- a known refund came above the expiry of a lock that was closed then
    record KnownRefund (c : ℕ) : Type 0 where
      before : List Entry
      now : Entry
      stands : IsMoment (history known c) before now
      took : accepted now ≡ Some Refund
      expired : Expired d c before (height before)

    refund_known : (c : ℕ) → IsElement c (entering d.graph v) → settled (history known c) ≡ Some Refunded → KnownRefund c
    refund_known c j s =
        let r = (refunded_done d c (history known c) (legal_known c j) s).1 in
        let of_r = of_refund d c r.past r.act.by r.clear in
        let terms : of_r.contract.terms ≡ stated_terms d c =
        correct_past d b c r.past r.now of_r.contract (correct d b c (correct_entering d b v legal conducted (times_law d acc) ready c j))
        (moment_more (history known c) (history b c) r.past r.now (grows c) r.stands) of_r.published in
        let above : least_expiry d c r.past < height r.past = subst (λ t. refund_expiry d c t (is_open r.past) < height r.past) terms of_r.expired in
        record {
          before = r.past;
          now = r.now;
          stands = r.stands;
          took = r.took;
          expired = expired_lock d c r.past (height r.past) (least-expired d c r.past (height r.past) of_r.untriggered above);
        }

    -- nothing is refunded up to delta above the height by which contracts open
    pub unrefunded_low : (c : ℕ) → IsElement c (entering d.graph v) → height (history known c) ≤ times.opening_deadline d.start d.delta d.bound + d.delta
        → settled (history known c) ≡ Some Refunded → ⊥
    unrefunded_low c j low s =
        let r = refund_known c j s in
        let x = r.expired.above in
        let y = height-past (history known c) r.before r.now r.stands in
        let z = (times_law d acc).opens c r.expired.lock (enters d v c j).0 in
        omega arith

    -- nor up to the last height of a hashkey, where v opened its own locks
    pub unrefunded : (c i : ℕ) (key : Hashkey) → i < length d.leaders → IsElement c (entering d.graph v)
        → (times.opening_deadline d.start d.delta d.bound + d.delta < height (history b c) → (j : ℕ) → j < length d.leaders → leads d v j ≡ true
        → (s : ℕ) × UnlockCall d b v c j s) → due_key d v w (signed i) known i ≡ Some key → height (history known c) ≤ last_unlock d.mode (stated_terms d c) key
        → settled (history known c) ≡ Some Refunded → ⊥
    unrefunded c i key below j owns due low s =
        let law = times_law d acc in
        let r = refund_known c j s in
        let x = r.expired.above in
        let y = height-past (history known c) r.before r.now r.stands in
        let in_arc = enters d v c j in
        let k = key_rule d v w b legal wallet own signed known good grows i key below due in
        let last : last_unlock d.mode (stated_terms d c) key ≤ expiry d c i =
        subst (λ l. last_unlock d.mode (stated_terms d c) key ≤ expiry d c l) k.good.lock
        (law.last c key in_arc.0 (subst (λ l. l < length d.leaders) (sym k.good.lock) below) (k.good.valid c j)) in
        elim (law.early c i r.expired.lock in_arc.0) [
          | inl l ↦ omega arith
          | inr early ↦ late c j owns r early
        ]
      where
        in_order : (c : ℕ) (r : KnownRefund c) {t : ℕ} (key : Hashkey) → key.lock ≡ r.expired.lock
            → (u : Done d c (history b c) (Unlock key) t) → height u.past < height r.before → Order u.past u.now r.before r.now → ⊥
        in_order c r key e u l (Earlier n) =
            false≢true (sym r.expired.closed ∙ (ap (is_open r.before) (sym e) ∙ opened-now r.before u.past u.now key n u.took))
        in_order c r key e u l (Same p q) = let k : Some (Unlock key) ≡ Some Refund = sym u.took ∙ (ap accepted q ∙ r.took) in cc k
        in_order c r key e u l (Later n) = let z = height-past u.past r.before r.now n in omega arith

        late : (c : ℕ) → IsElement c (entering d.graph v)
            → (times.opening_deadline d.start d.delta d.bound + d.delta < height (history b c) → (j : ℕ) → j < length d.leaders → leads d v j ≡ true
            → (s : ℕ) × UnlockCall d b v c j s) → (r : KnownRefund c)
            → ExpiresEarly d c r.expired.lock → ⊥
        late c j owns r early =
            let law = times_law d acc in
            let in_arc = enters d v c j in
            let x = r.expired.above in
            let lead : leads d v r.expired.lock ≡ true = subst (λ u. leads d u r.expired.lock ≡ true) in_arc.1 early.own in
            let opens = law.opens c r.expired.lock in_arc.0 in
            let stood = height-past (history known c) r.before r.now r.stands in
            let longer = begins_height (history known c) (history b c) (grows c) in
            let mine = owns (omega arith) r.expired.lock (from_range r.expired.lock (length d.leaders) r.expired.within) lead in
            let opened_own = opens_own d b v legal conducted law ready c r.expired.lock mine.0 j lead mine.1 in
            let u = opened_done d c (history b c) r.expired.lock opened_own.opening_deadline.opening
            (legal_at d b v conducted legal c in_arc.0) opened_own.opening_deadline.opened in
            let before : height_of_opening (opened (history b c) r.expired.lock) ≤ expiry d c r.expired.lock =
            opened_by_expiry d b v legal conducted law c r.expired.lock j (correct_entering d b v legal conducted law ready c j) in
            let same : height_of_opening (opened (history b c) r.expired.lock)
            ≡ opened_own.opening_deadline.opening.height = ap height_of_opening opened_own.opening_deadline.opened in
            let at = u.0.at in
            in_order c r opened_own.opening_deadline.opening.key u.1 u.0 (omega arith)
            (moments_in_order (history b c) u.0.past r.before u.0.now r.now u.0.stands
            (moment_more (history known c) (history b c) r.before r.now (grows c) r.stands))

    -- an arc takes the hashkey that is due, where it isn't refunded before its last height
    pub takes_due : (c i : ℕ) → i < length d.leaders → IsElement c (entering d.graph v)
        → ((key : Hashkey) → due_key d v w (signed i) known i ≡ Some key → at c ≤ last_unlock d.mode (stated_terms d c) key)
        → ((key : Hashkey) → due_key d v w (signed i) known i ≡ Some key → settled (history known c) ≡ Some Refunded → ⊥)
        → takes d at known i (due_key d v w (signed i) known i) c ≡ true
    takes_due c i below j last safe = by_open (is_open (history known c) i) refl
      where
        claimed : is_open (history known c) i ≡ false → settled (history known c) ≡ Some Claimed → ⊥
        claimed shut s =
            let k = (claimed_done d c (history known c) (legal_known c j) s).1 in
            let p = of_claim d c k.past k.act.by k.clear in
            let all = triggered-past d (history known c) k.past k.now k.stands p.triggered in
            false≢true (sym shut ∙ list_all-in (is_open (history known c)) (locks d) i all (in_range i (length d.leaders) below))

        unsettled : is_open (history known c) i ≡ false → (settled (history known c) ≡ Some Refunded → ⊥) → (s : Option Settlement)
            → settled (history known c) ≡ s → is_none s ≡ true
        unsettled shut never None e = refl
        unsettled shut never (Some Claimed) e = absurd (claimed shut e)
        unsettled shut never (Some Refunded) e = absurd (never e)

        by_key : is_open (history known c) i ≡ false → (o : Option Hashkey) → due_key d v w (signed i) known i ≡ o → accepts d at known o c ≡ true
        by_key shut None e = refl
        by_key shut (Some key) e =
            and_both (is_none (settled (history known c))) (nat_le (at c) (last_unlock d.mode (stated_terms d c) key))
            (unsettled shut (safe key e) (settled (history known c)) refl) (le-leb (at c) (last_unlock d.mode (stated_terms d c) key) (last key e))

        by_open : (x : Bool) → is_open (history known c) i ≡ x → takes d at known i (due_key d v w (signed i) known i) c ≡ true
        by_open true e = ap (λ x. x || accepts d at known (due_key d v w (signed i) known i) c) e
        by_open false e =
            ap (λ x. x || accepts d at known (due_key d v w (signed i) known i) c) e ∙ by_key e (due_key d v w (signed i) known i) refl
