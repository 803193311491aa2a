-- A wallet that is quick enough is never late with an unlock or a claim, and safe.
use Rattle.std.proofs.Common.{◌≡◌, ◌≢◌, ◌⊎◌, ℕ, ◌+◌, ◌<◌, ◌≤◌, true, false, max, ◌&&◌}
use Rattle.std.proofs.Common.{List, [], ◌∷◌, ◌++◌, length, Option, Some, refl, sym, ap, ◌∙◌, subst, inl, inr, arith}
use Rattle.swap_base.specs.Lists.{IsElement}
use Rattle.swap_base.proofs.Lists.{list_any-in}
use Rattle.swap_base.proofs.Lists.{in_append, from_append, in_from_moment}
use Rattle.swap_digraph.specs.declared.deal.Deal.{Deal}
use Rattle.swap_digraph.specs.Graph.{leaving, entering, is_listed}
use Rattle.swap_digraph.proofs.Paths.{is_listed-true}
use Rattle.hashkey_path.specs.declared.hashkey.Hashkey.{Hashkey}
use Rattle.escrow_core.specs.Terms.{stated_terms}
use Rattle.ledger_core.specs.declared.entry.Call.{Call}
use Rattle.ledger_core.specs.declared.entry.Call.TheVariants.{Publish, Unlock, Claim, Refund}
use Rattle.ledger_core.specs.History.{height, published, Publication, is_open}
use Rattle.ledger_core.specs.Book.{Histories, history, IsLegalBook}
use Rattle.ledger_core.proofs.History.{published_done, of_publish}
use Rattle.ledger_core.proofs.History.{is_some-of}
use Rattle.time_bounds.specs.Times as times
use Rattle.swap_rules.specs.declared.finding.Rule.TheVariants.{Unlock as RuleUnlock, Claim as RuleClaim}
use Rattle.swap_rules.specs.declared.outcome.Outcome.TheVariants.{Underwater}
use Rattle.swap_rules.specs.Accepted.{IsAccepted}
use Rattle.swap_rules.specs.Party.{is_correct, is_triggered, least_expiry, pick_call}
use Rattle.swap_rules.specs.Conduct.{is_publish, IsConducted}
use Rattle.swap_rules.specs.Late.{trigger_height, reference_height, is_late, is_done}
use Rattle.swap_rules.specs.Due.{Wallet, Action, is_claiming, is_due_claim, is_due_refund, may_unlock, due_key}
use Rattle.swap_rules.specs.Outcome.{outcome}
use Rattle.swap_rules.specs.Machine.{IsWallet}
use Rattle.swap_rules.specs.Rounds.{IsNear, IsDoneInTime}
use Rattle.swap_rules.specs.Laws.{IsUnforged}
use Rattle.swap_rules.specs.Walking.{UnlocksAll, ClaimsAll, AsksBack, AsksAllBack}
use Rattle.swap_rules.specs.Counted.{all_counted}
use Rattle.swap_rules.proofs.Accepted.{times_law}
use Rattle.swap_rules.proofs.Leaving.{enabled_parts}
use Rattle.swap_rules.proofs.Calls.{kept, done_in_time, counted_claim}
use Rattle.swap_rules.proofs.Entering.{UnlocksInTime, claim_enabled, trigger_ends}
use Rattle.swap_rules.proofs.Openings.{first_expiry}
use Rattle.swap_rules.proofs.Refunds.{safe_by, has_refunds, unlocks_all}
use Rattle.swap_rules.proofs.Rounds.{done_not_late}
use Rattle.swap_rules.proofs.Words.{and_three, pick_call-act, leaves}
use Rattle.wallet_promise.specs.Life.{Asking, IsLife, HaveNearEnded}
use Rattle.wallet_promise.proofs.Living.{life_conducts}
use Rattle.clock_promise.specs.Polls.{Clocks, IsQuick, HasLanded, Presents, IsPoll, IsPolled, HandsOver, AllHandOver, PublishesBefore}
use Rattle.clock_promise.specs.Laws.{what_presses, what_is_useful, IsPrompt, IsKept, QuickIsPrompt, QuickIsSafe, ObedientIsPrompt, ObedientIsSafe}
use Rattle.clock_promise.proofs.Acts.{Landed, landed, when_some, unlock_by, claim_by, refund_by, Refunding, asks, keeping}
use Rattle.clock_promise.proofs.Acts.{unlock_presses, claim_presses, refund_presses, pressing_is_useful}
use Rattle.wallet_promise.proofs.Timely.{Acting, unlocks_timely}
use Rattle.clock_promise.proofs.Reach.{Reached, IsLow, climb}

-- what landed by a height landed by a later one
pub sooner : (b : Histories) (v : ℕ) (y : Action) (s t : ℕ) → s ≤ t → HasLanded b v y s → Landed b v y t ⊎ (height (history b y.arc) ≤ t)
sooner b v y s t l (inl e) =
    let z = landed b v y s e in
    let u : z.now.height ≤ s = z.low in
    inl (record { past = z.past; now = z.now; call = z.call; stands = z.stands; called = z.called; like = z.like; low = omega arith })
sooner b v y s t l (inr h) = inr (omega arith)

-- What a poll presents.
module _ (d : Deal) (v : ℕ) (w : Wallet) (b : Histories) (askings : List Asking) (kept_keys : ℕ → Option Hashkey) (acc : IsAccepted d) (legal : IsLegalBook d b)
    (wallet : IsWallet d v w) (life : IsLife d v w b askings kept_keys) (c : Clocks) (polls : ℕ) (at : ℕ → ℕ → ℕ) (quick : IsQuick d c) (presents : Presents)
    (x : IsPolled d v b askings presents c polls at)
    (claims : (by : ℕ → ℕ) (kept : ℕ → Option Hashkey) (k : Histories) (a : ℕ) → IsElement a (entering d.graph v) → is_due_claim d v k a ≡ true
    → IsElement (record { arc = a; call = Claim }) (presents by kept k))
    (refunds : (by : ℕ → ℕ) (kept : ℕ → Option Hashkey) (k : Histories) (a : ℕ) → IsElement a (leaving d.graph v) → is_due_refund d v k a ≡ true
    → IsElement (record { arc = a; call = Refund }) (presents by kept k)) where
  pub fast : c.skew + c.finality + (c.pace + c.down) + c.landing ≤ d.delta
  fast = quick

  conducts : IsConducted d b v
  conducts = life_conducts d v w b askings kept_keys acc legal wallet life

  -- where a poll found its ledgers far enough, what presses on this one lands in time
  pub in_time : (ref r a : ℕ) (call : Call) → (l : r < polls) → at r a ≤ ref + (c.skew + c.finality + (c.pace + c.down))
      → IsElement (record { arc = a; call = call }) (presents (IsPoll.by (x.poll r l)) (IsPoll.asking (x.poll r l)).kept (IsPoll.asking (x.poll r l)).known)
      → Landed b v (record { arc = a; call = call }) (ref + d.delta) ⊎ (height (history b a) ≤ ref + d.delta)
  in_time ref r a call l soon i =
      sooner b v (record { arc = a; call = call }) (at r a + c.landing) (ref + d.delta) (let f = fast in omega arith)
      (IsPoll.lands (x.poll r l) (record { arc = a; call = call }) i)

  -- where no poll came so far, the book hasn't come further
  pub short : (ref a : ℕ) → IsNear d v a → at polls a ≤ ref + (c.skew + c.finality + (c.pace + c.down)) → height (history b a) ≤ ref + d.delta
  short ref a n low = let h : height (history b a) ≤ at polls a = x.ends a n in let f = fast in omega arith

  -- Unlocks and claims: the ledgers that enter v, by all that are next to it.

  abbrev pub Into : ℕ → Type 0
  Into a = IsElement a (entering d.graph v)

  abbrev pub near : List ℕ
  near = leaving d.graph v ++ entering d.graph v

  pub near_one : (a : ℕ) → IsElement a near → IsNear d v a
  near_one a i = from_append (leaving d.graph v) (entering d.graph v) a i

  abbrev pub Found : ℕ → Type 0
  Found ref = Reached d v b askings presents c polls at near Into ref

  abbrev pub Low : ℕ → Type 0
  Low ref = IsLow d v b askings presents c polls at near Into ref polls

  pub find : (ref : ℕ) → Found ref ⊎ Low ref
  find ref =
      climb d v b askings presents c polls at near Into (λ a i. inr i) near_one (λ r a e l i j. x.together r a e l i (near_one e j)) x ref
      polls (omega arith)

  pub told_past : (ref : ℕ) (y : Found ref) → (a : ℕ) → IsNear d v a → ref < height (history (IsPoll.asking (x.poll y.r y.inside)).known a)
  told_past ref y a n =
      let h : at y.r a ≤ height (history (IsPoll.asking (x.poll y.r y.inside)).known a) + c.finality = IsPoll.fresh (x.poll y.r y.inside) a n in
      let s : ref + c.finality < at y.r a = y.past a (in_append (leaving d.graph v) (entering d.graph v) a n) in
      omega arith

  pub told_soon : (ref : ℕ) (y : Found ref) → (a : ℕ) → Into a → height (history (IsPoll.asking (x.poll y.r y.inside)).known a) ≤ ref + d.delta
  told_soon ref y a i =
      let h : height (history (IsPoll.asking (x.poll y.r y.inside)).known a) ≤ at y.r a = IsPoll.no_further (x.poll y.r y.inside) a (inr i) in
      let s : at y.r a ≤ ref + (c.skew + c.finality + (c.pace + c.down)) = y.soon a i in
      let f = fast in
      omega arith

  -- an unlock that a poll presents in time is done in time
  pub unlock_found : (i a ref : ℕ) → i < length d.leaders → IsElement a (entering d.graph v) → (y : Found ref)
      → ((key : Hashkey) → may_unlock d v (IsPoll.asking (x.poll y.r y.inside)).known i a ≡ true
      → due_key d v w ((IsPoll.asking (x.poll y.r y.inside)).kept i) (IsPoll.asking (x.poll y.r y.inside)).known i ≡ Some key
      → IsElement (record { arc = a; call = Unlock key })
      (presents (IsPoll.by (x.poll y.r y.inside)) (IsPoll.asking (x.poll y.r y.inside)).kept (IsPoll.asking (x.poll y.r y.inside)).known))
      → reference_height d b v (RuleUnlock i) a ≡ Some ref → IsDoneInTime d b v (RuleUnlock i) a (ref + d.delta)
  unlock_found i a ref below en y shows e =
      let p = x.poll y.r y.inside in
      unlock_by d v w b askings kept_keys acc legal wallet life p.asking p.asked ref (ref + d.delta) (told_past ref y) i a below (told_soon ref y a en)
      (λ key may due. in_time ref y.r a (Unlock key) y.inside (y.soon a en) (shows key may due)) e

  claim_in_time : (a ref : ℕ) → reference_height d b v RuleClaim a ≡ Some ref → IsDoneInTime d b v RuleClaim a (ref + d.delta)
  unfolding reference_height
  claim_in_time a ref e = go enters_v (find ref)
    where
      enters_v : Into a
      enters_v =
          let s = when_some (is_listed a (entering d.graph v) && is_correct d b a && is_triggered d b a) (trigger_height d (history b a)) ref e in
          is_listed-true a (entering d.graph v) (and_three (is_listed a (entering d.graph v)) (is_correct d b a) (is_triggered d b a) s.0).0

      go : Into a → Found ref ⊎ Low ref → IsDoneInTime d b v RuleClaim a (ref + d.delta)
      go en (inl y) =
          let p = x.poll y.r y.inside in
          claim_by d v w b askings kept_keys acc legal wallet life p.asking p.asked ref (ref + d.delta) (told_past ref y) a (told_soon ref y a en)
          (λ t. in_time ref y.r a Claim y.inside (y.soon a en) (claims p.by p.asking.kept p.asking.known a en t)) e
      go en (inr low) = inr (short ref a (inr en) (low a en))

  pub claims_prompt : (a : ℕ) → is_late d b v RuleClaim a ≡ false
  claims_prompt a = done_not_late d b v d.delta (omega arith) RuleClaim a (λ ref e. claim_in_time a ref e)

  -- Refunds: one ledger, by itself.

  abbrev AskedBack : ℕ → ℕ → Type 0
  AskedBack a due = Refunding d v w b askings kept_keys acc legal wallet life a due

  pub refund_in_time : (a ref : ℕ) (p : Publication) → IsElement a (leaving d.graph v) → published (history b a) ≡ Some p → p.height ≤ ref
      → is_triggered d b a ≡ false → least_expiry d a (history b a) ≤ ref → AskedBack a (ref + d.delta) ⊎ (height (history b a) ≤ ref + d.delta)
  refund_in_time a ref p out e low shut late = go (climb d v b askings presents c polls at (a ∷ []) (λ z. z ≡ a)
      (λ z q. inl (subst (λ y. IsElement y (leaving d.graph v)) (sym q) out)) alone (λ r z y l q i. same r z y (q ∙ sym (only y i))) x ref polls (omega arith))
    where
      only : (z : ℕ) → IsElement z (a ∷ []) → z ≡ a
      only z (inl q) = q
      only z (inr i) = absurd i

      alone : (z : ℕ) → IsElement z (a ∷ []) → IsNear d v z
      alone z i = inl (subst (λ y. IsElement y (leaving d.graph v)) (sym (only z i)) out)

      same : (r z y : ℕ) → z ≡ y → at r z ≤ at r y + c.skew
      same r z y q = let h : at r z ≡ at r y = ap (at r) q in omega arith

      go : Reached d v b askings presents c polls at (a ∷ []) (λ z. z ≡ a) ref
          ⊎ IsLow d v b askings presents c polls at (a ∷ []) (λ z. z ≡ a) ref polls → AskedBack a (ref + d.delta) ⊎ (height (history b a) ≤ ref + d.delta)
      go (inl y) =
          let p2 = x.poll y.r y.inside in
          let h : at y.r a ≤ height (history p2.asking.known a) + c.finality = p2.fresh a (inl out) in
          let s : ref + c.finality < at y.r a = y.past a (inl refl) in
          let u : at y.r a ≤ ref + (c.skew + c.finality + (c.pace + c.down)) = y.soon a refl in
          let n : height (history p2.asking.known a) ≤ at y.r a = p2.no_further a (inl out) in
          let f = fast in
          refund_by d v w b askings kept_keys acc legal wallet life p2.asking p2.asked ref (ref + d.delta) a p out (omega arith) e low shut late
          (omega arith) (λ t. in_time ref y.r a Refund y.inside (y.soon a refl) (refunds p2.by p2.asking.kept p2.asking.known a out t))
      go (inr low) = inr (short ref a (inl out) (low a refl))

  -- Where the ledgers next to v have ended.

  module _ (unlocks_prompt : UnlocksInTime d b v) (ended : HaveNearEnded d b v) where
    all_claims : ClaimsAll d b v
    all_claims a en right t =
        let over : times.horizon d.start d.delta d.bound < height (history b a) = ended a (inr en) in
        let ends = trigger_ends d b v legal conducts (times_law d acc) a en right in
        let done =
        done_in_time d b v conducts legal RuleClaim a (claims_prompt a) (trigger_height d (history b a))
        (claim_enabled d b v legal conducts (times_law d acc) a en right t) (omega arith) in
        list_any-in (λ e. is_claiming (pick_call v e)) (history b a) done.now
        (ap is_claiming (done.called ∙ ap Some (counted_claim d b v a done.now.height done.call done.counted)))
        (subst (IsElement done.now) (sym done.stands.1) (in_from_moment done.past done.now done.stands.0))

    ask_back : PublishesBefore d b v → (a : ℕ) (p : Publication) → IsElement a (leaving d.graph v) → published (history b a) ≡ Some p
        → is_triggered d b a ≡ false → AsksBack b v a
    ask_back before a p out e shut =
        go (refund_in_time a (max p.height (least_expiry d a (history b a))) p out e (omega arith) shut (omega arith))
      where
        below : a < length d.graph.arcs
        below = (leaves d v a out).0

        published_low : p.height + d.delta < height (history b a)
        published_low =
            let done = published_done d a (history b a) p (legal.legal a (rw legal.one_each below)) e in
            let by : done.act.by ≡ v = (of_publish d a done.past done.act.by p.terms done.clear).party ∙ (leaves d v a out).1 in
            let called = pick_call-act d a done.past done.now (Publish p.terms) v done.act by in
            let h : done.now.height + d.delta < height (history b a) = before a done.past done.now out done.stands (ap is_publish called) in
            let e1 : p.height ≡ height done.past = done.at in
            let e2 : done.now.height ≡ height done.past = done.act.at in
            omega arith

        expiry_low : least_expiry d a (history b a) + d.delta < height (history b a)
        expiry_low =
            let first = first_expiry d a (stated_terms d a) (is_open (history b a)) shut in
            let same = first.height in
            let ends = (times_law d acc).ends a first.lock below in
            let over : times.horizon d.start d.delta d.bound < height (history b a) = ended a (inl out) in
            omega arith

        go : AskedBack a (max p.height (least_expiry d a (history b a)) + d.delta)
            ⊎ (height (history b a) ≤ max p.height (least_expiry d a (history b a)) + d.delta) → AsksBack b v a
        go (inl y) = record {
          past = y.past;
          now = y.now;
          stands = y.stands;
          called = y.called;
          after = asks d v w b askings kept_keys acc legal wallet life a y.past y.now y.stands y.called;
        }
        go (inr h) = let h1 = published_low in let h2 = expiry_low in absurd (omega arith)

    all_refunds : PublishesBefore d b v → AsksAllBack d b v
    all_refunds before a out shown shut = let p = is_some-of (published (history b a)) shown in ask_back before a p.0 out p.1 shut

    all_unlocks : UnlocksAll d b v
    all_unlocks = unlocks_all d b v acc legal (λ a i. ended a (inr i)) conducts unlocks_prompt

    afloat : IsUnforged d b v → outcome d b v ≢ Underwater
    afloat unforged = safe_by d b v acc legal conducts (λ stake. all_unlocks) (λ stake. all_claims) unforged

    pub is_kept : IsKept d v b
    is_kept = record {
      afloat = afloat;
      safe = λ before. record { safe = afloat; refunds = has_refunds d b v legal conducts (times_law d acc) (all_refunds before) };
      watchful = λ before. record { unlocks = λ stake. all_unlocks; claims = λ stake. all_claims; refunds = all_refunds before };
    }

-- Who presents what presses, and hands over its hashkeys.

module _ (d : Deal) (v : ℕ) (w : Wallet) (b : Histories) (askings : List Asking) (kept_keys : ℕ → Option Hashkey) (acc : IsAccepted d) (legal : IsLegalBook d b)
    (wallet : IsWallet d v w) (life : IsLife d v w b askings kept_keys) (c : Clocks) (polls : ℕ) (at : ℕ → ℕ → ℕ) (quick : IsQuick d c)
    (x : IsPolled d v b askings (what_presses d v w) c polls at) (hands : AllHandOver d v b askings (what_presses d v w) c polls at x) where
  claims : (by : ℕ → ℕ) (kept : ℕ → Option Hashkey) (k : Histories) (a : ℕ) → IsElement a (entering d.graph v) → is_due_claim d v k a ≡ true
      → IsElement (record { arc = a; call = Claim }) (what_presses d v w by kept k)
  claims by kept k a en t = claim_presses d v by w kept k a en t

  refunds : (by : ℕ → ℕ) (kept : ℕ → Option Hashkey) (k : Histories) (a : ℕ) → IsElement a (leaving d.graph v) → is_due_refund d v k a ≡ true
      → IsElement (record { arc = a; call = Refund }) (what_presses d v w by kept k)
  refunds by kept k a out t = refund_presses d v by w kept k a out t

  abbrev Met : ℕ → Type 0
  Met ref = Found d v w b askings kept_keys acc legal wallet life c polls at quick (what_presses d v w) x claims refunds ref

  abbrev Late : ℕ → Type 0
  Late ref = Low d v w b askings kept_keys acc legal wallet life c polls at quick (what_presses d v w) x claims refunds ref

  conduct : IsConducted d b v
  conduct = life_conducts d v w b askings kept_keys acc legal wallet life

  -- not both late and in time
  done_of : (i a ref : ℕ) → ref + d.delta < height (history b a) → IsDoneInTime d b v (RuleUnlock i) a (ref + d.delta)
      → is_done d b v (RuleUnlock i) a (ref + d.delta) ≡ true
  done_of i a ref above (inl e) = e
  done_of i a ref above (inr l) = absurd (omega arith)

  acts : (i a ref : ℕ) → i < length d.leaders → reference_height d b v (RuleUnlock i) a ≡ Some ref → ref + d.delta < height (history b a)
      → Acting d v w b acc legal conduct wallet i ref
  acts i a ref below e above =
      go (enabled_parts d b v i a ref e).enters
      (find d v w b askings kept_keys acc legal wallet life c polls at quick (what_presses d v w) x claims refunds ref)
    where
      go : IsElement a (entering d.graph v) → Met ref ⊎ Late ref → Acting d v w b acc legal conduct wallet i ref
      go en (inr low) =
          let s = short d v w b askings kept_keys acc legal wallet life c polls at quick (what_presses d v w) x claims refunds ref a (inr en) (low a en) in
          absurd (omega arith)
      go en (inl y) =
          let p = x.poll y.r y.inside in
          let past = told_past d v w b askings kept_keys acc legal wallet life c polls at quick (what_presses d v w) x claims refunds ref y in
          let k = keeping d v w b askings kept_keys acc legal wallet life in
          record {
            known = p.asking.known;
            signed = p.asking.kept;
            at = p.by;
            grows = life.told p.asking p.asked;
            good = k.each p.asking p.asked;
            past = past;
            ahead = λ z on. p.ahead z (inr on);
            soon = λ z on.
                let s = p.soon z (inr on) in
                let t : at y.r z ≤ ref + (c.skew + c.finality + (c.pace + c.down)) = y.soon z on in
                let f = fast d v w b askings kept_keys acc legal wallet life c polls at quick (what_presses d v w) x claims refunds in
                omega arith;
            handed = HandsOver.handed (hands y.r y.inside) i a ref e past;
            shown = HandsOver.shown (hands y.r y.inside);
            does = λ z on q higher free.
                done_of i z ref higher
                (unlock_found d v w b askings kept_keys acc legal wallet life c polls at quick (what_presses d v w) x claims refunds i z ref on
                (enabled_parts d b v i z ref q).enters y
                (λ key may due. unlock_presses d v p.by w p.asking.kept p.asking.known i z key on (enabled_parts d b v i z ref q).enters may due free) q);
          }

  pub unlocks_prompt : UnlocksInTime d b v
  unlocks_prompt = unlocks_timely d v w b acc legal conduct wallet (λ i a ref below j e above. acts i a ref below e above)

  pub is_prompt : IsPrompt d v b
  is_prompt a j = (
    λ i below. unlocks_prompt i a below j,
    claims_prompt d v w b askings kept_keys acc legal wallet life c polls at quick (what_presses d v w) x claims refunds a,
  )

  pub keeps : HaveNearEnded d b v → IsKept d v b
  keeps ended = is_kept d v w b askings kept_keys acc legal wallet life c polls at quick (what_presses d v w) x claims refunds unlocks_prompt ended

pub quick_is_prompt : QuickIsPrompt
quick_is_prompt d v w b askings kept acc legal wallet life c polls at quick x hands =
    is_prompt d v w b askings kept acc legal wallet life c polls at quick x hands

pub quick_is_safe : QuickIsSafe
quick_is_safe d v w b askings kept acc legal wallet life c polls at quick x hands ended =
    keeps d v w b askings kept acc legal wallet life c polls at quick x hands ended

-- who presents what is useful presents what presses
pressing_polls : (d : Deal) (v : ℕ) (w : Wallet) (b : Histories) (askings : List Asking) (c : Clocks) (polls : ℕ) (at : ℕ → ℕ → ℕ)
    → IsPolled d v b askings (what_is_useful d v w) c polls at → IsPolled d v b askings (what_presses d v w) c polls at
pressing_polls d v w b askings c polls at x = record {
  begins = x.begins;
  rises = x.rises;
  together = x.together;
  poll = λ r l.
      let p = x.poll r l in
      record {
        asking = p.asking;
        asked = p.asked;
        fresh = p.fresh;
        no_further = p.no_further;
        by = p.by;
        ahead = p.ahead;
        soon = p.soon;
        lands = λ y i. p.lands y (pressing_is_useful d v p.by w p.asking.kept p.asking.known (all_counted v p.asking.known) y i);
      };
  ends = x.ends;
}

pub obedient_is_prompt : ObedientIsPrompt
unfolding pressing_polls
obedient_is_prompt d v w b askings keys acc legal wallet life c polls at quick x hands =
    quick_is_prompt d v w b askings keys acc legal wallet life c polls at quick (pressing_polls d v w b askings c polls at x) hands

pub obedient_is_safe : ObedientIsSafe
unfolding pressing_polls
obedient_is_safe d v w b askings keys acc legal wallet life c polls at quick x hands =
    quick_is_safe d v w b askings keys acc legal wallet life c polls at quick (pressing_polls d v w b askings c polls at x) hands
