-- A timely party is watchful and safe, and may stop publishing at any time.
use Rattle.std.proofs.Common.{◌≡◌, ℕ, suc, zero, ◌+◌, ◌*◌, ◌<◌, ◌≤◌, ◌-◌, nat_lt, nat_le, Bool, true, false, cond, not, ◌&&◌}
use Rattle.std.proofs.Common.{List, [], length, Option, Some, None, is_some, is_none, refl, sym, ap, ◌∙◌, subst, inl, inr, arith}
use Rattle.std.proofs.Common.{ltb-true, ltb-false, mul-le-mul_right}
use Rattle.std.proofs.lemmas.Bool.{false≢true}
use Rattle.swap_base.specs.Lists.{IsElement, IsMoment, greatest}
use Rattle.swap_base.proofs.Lists.{list_any-in, in_range, and_parts, and_both, below_or}
use Rattle.swap_base.proofs.Lists.{greatest-in, greatest-below, in_place, in_from_moment, from_append, first_given_answer-in, all_moments_front}
use Rattle.swap_digraph.specs.declared.deal.Deal.{Deal}
use Rattle.swap_digraph.specs.Graph.{arcs, leaving, entering}
use Rattle.swap_digraph.specs.Deal.{locks, leads}
use Rattle.hashkey_path.specs.declared.hashkey.Hashkey.{Hashkey}
use Rattle.escrow_core.specs.Terms.{stated_terms}
use Rattle.ledger_core.specs.declared.entry.Call.{Call}
use Rattle.ledger_core.specs.declared.entry.Call.TheVariants.{Publish, Unlock, Claim, Refund, Transfer}
use Rattle.ledger_core.specs.declared.entry.Entry.{Entry}
use Rattle.ledger_core.specs.declared.facts.Settlement.{Settlement}
use Rattle.ledger_core.specs.declared.facts.Settlement.TheVariants.{Claimed, Refunded}
use Rattle.ledger_core.specs.History.{height, accepted, publication, published, opened}
use Rattle.ledger_core.specs.History.{settled, is_open, triggered, IsLegal, IsLegalMoment}
use Rattle.ledger_core.specs.Book.{Histories, history, IsLegalBook}
use Rattle.swap_rules.specs.declared.finding.Rule.TheVariants.{Claim as ToClaim}
use Rattle.swap_rules.specs.Accepted.{IsAccepted}
use Rattle.swap_rules.specs.Party.{is_ready, is_triggered, expiry, has_expired, pick_call}
use Rattle.swap_rules.specs.Conduct.{IsConducted}
use Rattle.swap_rules.specs.Late.{height_of_opening, trigger_height, counts, is_done}
use Rattle.swap_rules.specs.Due.{Wallet, is_claiming, is_refunding, is_due_refund}
use Rattle.swap_rules.specs.Machine.{Begins, Knows}
use Rattle.swap_rules.specs.Rounds.{IsNear, IsDoneInTime}
use Rattle.swap_rules.proofs.Accepted.{times_law, time_law}
use Rattle.swap_rules.proofs.EarlyUseful.{last_open}
use Rattle.swap_rules.proofs.Times.{TimesLaw, below_horizon}
use Rattle.swap_rules.proofs.Calls.{legal_at, some_call, counted_claim}
use Rattle.swap_rules.proofs.Entering.{UnlocksInTime, claim_enabled, opened_by_expiry}
use Rattle.swap_rules.proofs.Growth.{is_open-more, triggered-more}
use Rattle.swap_rules.proofs.Openings.{first_expiry, has_expired-lock}
use Rattle.swap_rules.proofs.Prefixes.{begins_refl, begins_more, begins_height, moment_more, in_any, none_called}
use Rattle.swap_rules.proofs.Refunds.{unlocks_all, watchful_is_safe}
use Rattle.swap_rules.proofs.Words.{past_end, pick_call-act, enters, leaves}
use Rattle.ledger_core.proofs.History.{published_done, claimed_done, refunded_done, of_publish, of_claim, of_refund}
use Rattle.ledger_core.proofs.History.{triggered-past, is_some-of, not-true}
use Rattle.ledger_core.proofs.Units.{units}
use Rattle.time_bounds.specs.Times as times
use Rattle.swap_rules.specs.Walking.{HasLost, ClaimsAll, AsksBack, AsksAllBack, AsksAfterPublish, IsWatchful}
use Rattle.swap_rules.specs.Laws.{IsSafe}
use Rattle.swap_rules.specs.Outcome.{EnteringHaveEnded}
use Rattle.swap_rules.proofs.Rounds.{Told, NothingElseDue, next_round, and_not, called_at, claim_done, unlock_done, done_not_late}
use Rattle.swap_rules.specs.declared.finding.Rule.TheVariants.{Unlock as OfUnlock}
use Rattle.swap_rules.specs.Party.{ready_height, first_key}
use Rattle.swap_rules.specs.Late.{when, reference_height, is_late, is_past_due, unlock_base}
use Rattle.swap_rules.specs.Machine.{IsWallet, KeepsKey}
use Rattle.swap_rules.proofs.Calls.{done_in_time, counted_unlock}
use Rattle.swap_rules.proofs.Entering.{UnlockCall, ready_below}
use Rattle.swap_rules.proofs.Leaving.{enabled_parts, is_known}
use Rattle.swap_digraph.specs.Graph.{is_listed}
use Rattle.swap_digraph.proofs.Paths.{in-is_listed}
use Rattle.std.proofs.Common.{max, ◌||◌}
use Rattle.swap_base.proofs.Lists.{list_all-from}
use Rattle.swap_rules.proofs.Words.{or-left}
use Rattle.swap_rules.specs.Due.{due_key}
use Rattle.escrow_core.specs.Terms.{last_unlock}
use Rattle.swap_rules.specs.Counted.{all_counted}
use Rattle.swap_rules.specs.Useful.{takes, is_past, is_missed, has_missed}
use Rattle.std.specs.List.{list_any, list_all}
use Rattle.swap_base.proofs.Lists.{from_range, or-right}
use Rattle.swap_rules.specs.Conduct.{is_first_key}
use Rattle.swap_rules.proofs.Words.{same_key-true}
use Rattle.swap_rules.proofs.Entering.{opens}
use Rattle.swap_rules.proofs.Prefixes.{in_front}
use Rattle.ledger_core.proofs.History.{opened_done, opened-now, not-true-of}
use Rattle.wallet_promise.specs.Timely.{IsPastExpiries, ActedOnTime, Finished, IsTimely, TimelyIsSafe, AreFreeRounds, MayStopPublishing}
use Rattle.swap_rules.proofs.Counted.{all_counted_reads}
use Rattle.wallet_promise.proofs.Early.{Presented, start_height, start_early}
use Rattle.swap_rules.proofs.Pressing.{hindered, nothing_else}
use Rattle.wallet_promise.proofs.Able.{comes, unrefunded_low, unrefunded, takes_due}
use Rattle.std.proofs.lemmas.Option.{same_Some}

none_some : {A : Type 0} (x : A) → None ≡ Some x → ⊥
none_some x e = cc e

some_none : {A : Type 0} (x : A) → Some x ≡ None → ⊥
some_none x e = cc e

refunding_is : (c : Call) → is_refunding (Some c) ≡ true → c ≡ Refund
refunding_is Refund e = refl
refunding_is (Publish t) e = absurd (cc e)
refunding_is (Unlock key) e = absurd (cc e)
refunding_is Claim e = absurd (cc e)
refunding_is (Transfer to units) e = absurd (cc e)

-- What a party knows at the end.

horizon_above : (s b x : ℕ) → times.last_expiry s x b + x ≡ times.horizon s x b
horizon_above s b x = omega arith

-- The last knowledge of v: it holds every call of v, it reaches past every expiry, and nothing
-- presses over it but what is held back.
pub record Last (d : Deal) (b : Histories) (v : ℕ) (w : Wallet) : Type 0 where
  pub known : Histories
  pub signed : ℕ → Option Hashkey
  pub knows : (a : ℕ) → Knows v (history known a) (history b a)
  pub held : ℕ → Bool
  pub idle : NothingElseDue d v signed w known held
  pub past : IsPastExpiries d v known

module _ (d : Deal) (b : Histories) (v : ℕ) (w : Wallet) (k : IsAccepted d) (legal : IsLegalBook d b) (conducted : IsConducted d b v) (x : Last d b v w) where
  law : TimesLaw d
  law = times_law d k

  grows : (a : ℕ) → Begins (history x.known a) (history b a)
  grows a = let n = x.knows a in (n.rest, n.whole)

  -- the greatest height that is known
  abbrev top : ℕ
  top = greatest (λ h. height h) x.known

  below_top : (a : ℕ) → height (history x.known a) ≤ top
  below_top a = elim (below_or a (length x.known)) [
    | inl l ↦ greatest-in (λ h. height h) x.known (history x.known a) (in_place x.known a [] l)
    | inr l ↦ (let e = past_end x.known a (λ m. absurd (omega arith)) in let z : ◌≡◌ {A = ℕ} (height (history x.known a)) 0 = ap height e in omega arith)
  ]

  expires_before : (a i : ℕ) → a < length d.graph.arcs → expiry d a i ≤ times.last_expiry d.start d.delta d.bound
  expires_before a i l =
      let e = law.ends a i l in
      let h = horizon_above d.start d.bound d.delta in
      omega arith

  pub last_claims : ClaimsAll d b v
  last_claims a i right t =
      let in_arc = enters d v a i in
      let low : trigger_height d (history b a) ≤ times.last_expiry d.start d.delta d.bound =
      greatest-below (λ i. height_of_opening (opened (history b a) i)) (locks d) (times.last_expiry d.start d.delta d.bound) (λ j z.
      let e = opened_by_expiry d b v legal conducted law a j i right in let f = expires_before a j in_arc.0 in omega arith) in
      let told : Told d b v w (trigger_height d (history b a)) top =
      record {
        known = x.known;
        signed = x.signed;
        held = x.held;
        grows = grows;
        idle = x.idle;
        low = λ c n. let p = x.past c n in omega arith;
        high = below_top;
      } in
      let done = claim_done d b v w (trigger_height d (history b a)) top k legal conducted told a (claim_enabled d b v legal conducted law a i right t) in
      let y = in_any (λ e. counts d b v ToClaim a e.height (pick_call v e) && nat_le e.height top) (history b a) done in
      let p = (and_parts (counts d b v ToClaim a y.0.height (pick_call v y.0)) _ y.2).0 in
      let c = some_call d b v conducted legal ToClaim a y.0.height (pick_call v y.0) p in
      let claim = counted_claim d b v a y.0.height c.0 (ap (counts d b v ToClaim a y.0.height) (sym c.1) ∙ p) in
      list_any-in (λ e. is_claiming (pick_call v e)) (history b a) y.0 (ap is_claiming (c.1 ∙ ap Some claim)) y.1

  -- what v called is known
  known_call : (a : ℕ) (e : Entry) (c : Call) → IsElement e (history b a) → pick_call v e ≡ Some c → IsElement e (history x.known a)
  known_call a e c i called =
      let n = x.knows a in
      elim (from_append (history x.known a) n.rest e (subst (IsElement e) n.whole i)) [
        | inl j ↦ j
        | inr j ↦ absurd (none_some c (sym (none_called v e (n.others e j)) ∙ called))
      ]

  module _ (asks : (a : ℕ) (past : List Entry) (e : Entry) → IsElement a (leaving d.graph v) → IsMoment (history b a) past e → pick_call v e ≡ Some Refund
      → is_some (published past) ≡ true) where
    pub last_refunds : AsksAllBack d b v
    unfolding is_due_refund
    last_refunds a i shown shut =
        let out = leaves d v a i in
        let l : IsLegal d a (history b a) = legal_at d b v conducted legal a out.0 in
        let p = is_some-of (published (history b a)) shown in
        let done = published_done d a (history b a) p.0 l p.1 in
        let by : done.act.by ≡ v = (of_publish d a done.past done.act.by p.0.terms done.clear).party ∙ out.1 in
        let called = pick_call-act d a done.past done.now (Publish p.0.terms) v done.act by in
        let known =
        known_call a done.now (Publish p.0.terms) (subst (IsElement done.now) (sym done.stands.1) (in_from_moment done.past done.now done.stands.0)) called in
        let shown_known : is_some (published (history x.known a)) ≡ true =
        first_given_answer-in (λ e. publication e.height (accepted e)) (history x.known a) done.now (record {
          height = done.now.height;
          terms =
              p.0.terms;
        }) known (ap (publication done.now.height) done.took) in
        let first = first_expiry d a (stated_terms d a) (is_open (history b a)) shut in
        let ends = expires_before a first.lock out.0 in
        let low = x.past a (inl i) in
        let up : expiry d a first.lock < height (history x.known a) = omega arith in
        let shut_known : triggered d (history x.known a) ≡ false =
        not-true _ (λ z. false≢true (sym shut ∙ triggered-more d (history x.known a) (history b a) (grows a) z)) in
        let closed : is_open (history x.known a) first.lock ≡ false =
        not-true _ (λ z. false≢true (sym first.closed ∙ is_open-more (history x.known a) (history b a) first.lock (grows a) z)) in
        go l shown_known shut_known
        (has_expired-lock d a (history x.known a) (height (history x.known a)) first.lock first.within closed up) (settled (history x.known a)) refl
      where
        go : IsLegal d a (history b a) → is_some (published (history x.known a)) ≡ true → triggered d (history x.known a) ≡ false
            → has_expired d a (history x.known a) (height (history x.known a)) ≡ true → (z : Option Settlement) → settled (history x.known a) ≡ z
            → AsksBack b v a
        go l shown shut late None z =
            let c =
            called_at v (history x.known a) is_refunding refl
            (and_not (is_some (published (history x.known a)) && is_none (settled (history x.known a)) && not (is_triggered d x.known a)
            && has_expired d a (history x.known a) (height (history x.known a))) _ (x.idle.refund a i)
            (and_both (is_some (published (history x.known a)) && is_none (settled (history x.known a)) && not (is_triggered d x.known a)) _
            (and_both (is_some (published (history x.known a)) && is_none (settled (history x.known a))) _
            (and_both (is_some (published (history x.known a))) _ shown (ap is_none z)) (ap not shut)) late)) in
            let m = moment_more (history x.known a) (history b a) c.past c.now (grows a) c.stands in
            let called : pick_call v c.now ≡ Some Refund = c.called ∙ ap Some (refunding_is c.call c.passes) in
            record { past = c.past; now = c.now; stands = m; called = called; after = asks a c.past c.now i m called }
        go l shown shut late (Some Claimed) z =
            let lk : IsLegal d a (history x.known a) =
            all_moments_front (IsLegalMoment d a) (history x.known a) (grows a).0 (subst (IsLegal d a) (grows a).1 l) in
            let c = (claimed_done d a (history x.known a) lk z).1 in
            absurd (false≢true (sym shut ∙ triggered-past d (history x.known a) c.past c.now c.stands (of_claim d a c.past c.act.by c.clear).triggered))
        go l shown shut late (Some Refunded) z =
            let lk : IsLegal d a (history x.known a) =
            all_moments_front (IsLegalMoment d a) (history x.known a) (grows a).0 (subst (IsLegal d a) (grows a).1 l) in
            let c = (refunded_done d a (history x.known a) lk z).1 in
            let of_r = of_refund d a c.past c.act.by c.clear in
            let by : c.act.by ≡ v = of_r.party ∙ (leaves d v a i).1 in
            record {
              past = c.past;
              now = c.now;
              stands = moment_more (history x.known a) (history b a) c.past c.now (grows a) c.stands;
              called = pick_call-act d a c.past c.now Refund v c.act by;
              after = ap is_some of_r.published;
            }

-- The unlocks of a timely party.

when_value : (t : Bool) (n r : ℕ) → when t n ≡ Some r → n ≡ r
when_value true n r e = same_Some n r e
when_value false n r e = absurd (cc e)

and_nothing : (x y : Bool) → y ≡ true → (x && not y) ≡ false
and_nothing true true e = refl
and_nothing false y e = refl
and_nothing true false e = absurd (false≢true e)

neither : (m q : Bool) → m ≡ false → q ≡ true → (m || not q) ≡ false
neither false true f e = refl
neither true q f e = absurd (false≢true (sym f))
neither false false f e = absurd (false≢true e)

module _ (d : Deal) (v : ℕ) (w : Wallet) (b : Histories) (acc : IsAccepted d) (legal : IsLegalBook d b)
    (conducted : IsConducted d b v) (wallet : IsWallet d v w) where
  abbrev starts : ℕ → ℕ
  starts i = start_height d b v acc legal conducted i

  -- what the height from which an unlock is to be done is
  start_is : (i a ref : ℕ) → reference_height d b v (OfUnlock i) a ≡ Some ref → starts i ≡ ref
  unfolding reference_height
  start_is i a ref e = when_value (is_listed a (entering d.graph v) && is_ready d b v && is_known d b v i) (starts i) ref e

  own_starts : (j c : ℕ) → is_ready d b v ≡ true → IsElement c (entering d.graph v) → leads d v j ≡ true
      → reference_height d b v (OfUnlock j) c ≡ Some (starts j)
  unfolding reference_height
  own_starts j c ready w lead =
      ap (λ x. when x (starts j))
      (and_both (is_listed c (entering d.graph v) && is_ready d b v) (is_known d b v j)
      (and_both (is_listed c (entering d.graph v)) (is_ready d b v) (in-is_listed c (entering d.graph v) w) ready)
      (or-left (leads d v j || is_some (first_key b v j)) _ (or-left (leads d v j) (is_some (first_key b v j)) lead)))

  -- an unlock with a hashkey that v presents is to be done too
  shown_starts : (l c : ℕ) (key : Hashkey) → is_ready d b v ≡ true → IsElement c (entering d.graph v) → first_key b v l ≡ Some key
      → reference_height d b v (OfUnlock l) c ≡ Some (starts l)
  unfolding reference_height
  shown_starts l c key ready on shown =
      ap (λ x. when x (starts l))
      (and_both (is_listed c (entering d.graph v) && is_ready d b v) (is_known d b v l)
      (and_both (is_listed c (entering d.graph v)) (is_ready d b v) (in-is_listed c (entering d.graph v) on) ready)
      (or-left (leads d v l || is_some (first_key b v l)) _ (or-right (leads d v l) (is_some (first_key b v l)) (ap (λ o. is_some o) shown))))

  starts_ready : (l : ℕ) → ready_height d b v ≤ starts l
  starts_ready l = go (leads d v l) refl
    where
      go : (x : Bool) → leads d v l ≡ x → ready_height d b v ≤ starts l
      go true e =
          subst (λ x. ready_height d b v ≤ cond x (ready_height d b v) (max (ready_height d b v) (unlock_base d.mode d b v l (first_key b v l)))) (sym e) (omega arith)
      go false e =
          subst (λ x. ready_height d b v ≤ cond x (ready_height d b v) (max (ready_height d b v) (unlock_base d.mode d b v l (first_key b v l)))) (sym e) (omega arith)

  -- What is missed.

  record Missed (signed : ℕ → Option Hashkey) (k : Histories) : Type 0 where
    arc : ℕ
    on : IsElement arc (entering d.graph v)
    lock : ℕ
    below : lock < length d.leaders
    closed : is_open (history k arc) lock ≡ false
    key : Hashkey
    mine : signed lock ≡ Some key
    past : last_unlock d.mode (stated_terms d arc) key < height (history k arc)

  missed_at : (signed : ℕ → Option Hashkey) (k : Histories) → has_missed d v signed k ≡ true → Missed signed k
  missed_at signed k e =
      let y = in_any (λ a. list_any (is_missed d k signed a) (locks d)) (entering d.graph v) e in
      let z = in_any (is_missed d k signed y.0) (locks d) y.2 in
      let p = and_parts (not (is_open (history k y.0) z.0)) (is_past d y.0 (signed z.0) (height (history k y.0))) z.2 in
      by y.0 y.1 z.0 (from_range z.0 (length d.leaders) z.1) (not-true-of (is_open (history k y.0) z.0) p.0) (signed z.0) refl p.1
    where
      by : (a : ℕ) → IsElement a (entering d.graph v) → (l : ℕ) → l < length d.leaders → is_open (history k a) l ≡ false → (o : Option Hashkey) → signed l ≡ o
          → is_past d a o (height (history k a)) ≡ true → Missed signed k
      by a j l below shut None q t = absurd (false≢true t)
      by a j l below shut (Some key) q t = record {
        arc = a;
        on = j;
        lock = l;
        below = below;
        closed = shut;
        key = key;
        mine = q;
        past = ltb-true (last_unlock d.mode (stated_terms d a) key) (height (history k a)) t;
      }

  -- an unlock that was done is a call with v's hashkey
  call_of : (l c : ℕ) (key : Hashkey) → is_ready d b v ≡ true → l < length d.leaders → IsElement c (entering d.graph v) → first_key b v l ≡ Some key
      → starts l + d.delta < height (history b c) → is_done d b v (OfUnlock l) c (starts l + d.delta) ≡ true → UnlockCall d b v c l (starts l + d.delta)
  call_of l c key ready below on shown passed done =
      let e = shown_starts l c key ready on shown in
      let on_time : is_late d b v (OfUnlock l) c ≡ false =
      ap (is_past_due d b v (OfUnlock l) c) e ∙ and_nothing (nat_lt (starts l + d.delta) (height (history b c))) _ done in
      let call = done_in_time d b v conducted legal (OfUnlock l) c on_time (starts l) e passed in
      let u = counted_unlock d b v l c call.now.height call.call call.counted in
      let one : key ≡ u.key = same_key-true key u.key (ap (λ o. is_first_key o u.key) (sym shown) ∙ u.first) in
      let early : starts l + d.delta ≤ last_unlock d.mode (stated_terms d c) u.key =
      subst (λ z. starts l + d.delta ≤ last_unlock d.mode (stated_terms d c) z) one
      (start_early d b v acc legal conducted ready l c key below on (λ follows. Presented shown)) in
      let soon = call.in_time in
      record {
        past = call.past;
        now = call.now;
        key = u.key;
        stands = call.stands;
        called = call.called ∙ ap Some u.call;
        lock = u.lock;
        in_time = soon;
        last = omega arith;
      }

  -- What v saw to for its unlocks for lock i, from the height ref on: where every arc that enters it
  -- takes the hashkey, and none has missed a lock, they were done in time.
  pub record Acting (i ref : ℕ) : Type 0 where
    pub known : Histories
    pub signed : ℕ → Option Hashkey
    pub at : ℕ → ℕ
    pub grows : (a : ℕ) → Begins (history known a) (history b a)
    pub good : (j : ℕ) (key : Hashkey) → signed j ≡ Some key → KeepsKey d b v j key
    pub past : (c : ℕ) → IsNear d v c → ref < height (history known c)
    pub ahead : (c : ℕ) → IsElement c (entering d.graph v) → height (history known c) ≤ at c
    pub soon : (c : ℕ) → IsElement c (entering d.graph v) → at c ≤ ref + d.delta
    pub handed : signed i ≡ first_key b v i
    pub shown : (j : ℕ) (key : Hashkey) → signed j ≡ Some key → first_key b v j ≡ Some key
    pub does : (a : ℕ) → i < length d.leaders → reference_height d b v (OfUnlock i) a ≡ Some ref → ref + d.delta < height (history b a)
        → hindered d v at w signed i known ≡ false → is_done d b v (OfUnlock i) a (ref + d.delta) ≡ true

  -- where nothing presses v saw to them
  acting : (i ref : ℕ) → ActedOnTime d v w b i ref → Acting i ref
  acting i ref x = record {
    known = x.known;
    signed = x.signed;
    at = x.at;
    grows = x.grows;
    good = x.good;
    past = x.past;
    ahead = λ c on. x.ahead c;
    soon = λ c on. x.soon c;
    handed = x.handed;
    shown = x.shown;
    does = λ a below e above free. unlock_done d b v w ref (ref + d.delta) acc legal conducted told i a below (λ early. free) e;
  }
    where
      told : Told d b v w ref (ref + d.delta)
      told = record {
        known = x.known;
        signed = x.signed;
        held = λ j. hindered d v x.at w x.signed j x.known;
        grows = x.grows;
        idle = nothing_else d v x.at w x.signed (all_counted v x.known) x.known (all_counted_reads v x.known) x.done;
        low = x.past;
        high = λ a. let h = x.ahead a in let t = x.soon a in omega arith;
      }

  module _ (acts : (i a ref : ℕ) → i < length d.leaders → IsElement a (arcs d.graph) → reference_height d b v (OfUnlock i) a ≡ Some ref
      → ref + d.delta < height (history b a) → Acting i ref) where
    done_by : (i a ref : ℕ) (x : Acting i ref) → i < length d.leaders → reference_height d b v (OfUnlock i) a ≡ Some ref
        → ref + d.delta < height (history b a) → has_missed d v (x.signed) x.known ≡ false
        → ((c : ℕ) → IsElement c (entering d.graph v) → takes d x.at x.known i (due_key d v w (x.signed i) x.known i) c ≡ true)
        → is_done d b v (OfUnlock i) a (ref + d.delta) ≡ true
    done_by i a ref x below e above none free =
        x.does a below e above
        (neither (has_missed d v x.signed x.known) (list_all (takes d x.at x.known i (due_key d v w (x.signed i) x.known i)) (entering d.graph v)) none
        (list_all-from (takes d x.at x.known i (due_key d v w (x.signed i) x.known i)) (entering d.graph v) free))

    -- the hashkey that is due is accepted up to delta above ref
    last_of : (i c ref : ℕ) (x : Acting i ref) (key : Hashkey) → is_ready d b v ≡ true → i < length d.leaders
        → IsElement c (entering d.graph v) → starts i ≡ ref → due_key d v w (x.signed i) x.known i ≡ Some key
        → ref + d.delta ≤ last_unlock d.mode (stated_terms d c) key
    last_of i c ref x key ready below on same due =
        subst (λ n. n + d.delta ≤ last_unlock d.mode (stated_terms d c) key) same
        (start_early d b v acc legal conducted ready i c key below on (λ follows.
        comes d b v w acc legal conducted wallet x.known x.signed x.at x.grows x.good ref i key x.past (omega arith) x.handed due follows))

    -- a lock that is missed was to be done before, and wasn't
    earlier : (i ref : ℕ) (x : Acting i ref) → is_ready d b v ≡ true → (m : Missed x.signed x.known)
        → starts (Missed.lock m) < ref
    earlier i ref x ready m =
        let h = x.ahead (Missed.arc m) (Missed.on m) in
        let t = x.soon (Missed.arc m) (Missed.on m) in
        let p = Missed.past m in
        let s =
        start_early d b v acc legal conducted ready (Missed.lock m) (Missed.arc m) (Missed.key m) (Missed.below m) (Missed.on m) (λ follows.
        Presented (x.shown (Missed.lock m) (Missed.key m) (Missed.mine m))) in
        omega arith

    shown_passed : (i ref : ℕ) (x : Acting i ref) → is_ready d b v ≡ true → (m : Missed x.signed x.known)
        → starts (Missed.lock m) + d.delta < height (history b (Missed.arc m))
    shown_passed i ref x ready m =
        let s =
        start_early d b v acc legal conducted ready (Missed.lock m) (Missed.arc m) (Missed.key m) (Missed.below m) (Missed.on m) (λ follows.
        Presented (x.shown (Missed.lock m) (Missed.key m) (Missed.mine m))) in
        let p = Missed.past m in
        let g = begins_height (history x.known (Missed.arc m)) (history b (Missed.arc m)) (x.grows (Missed.arc m)) in
        omega arith

    opens_passed : (i ref : ℕ) (x : Acting i ref) (m : Missed x.signed x.known)
        → times.opening_deadline d.start d.delta d.bound + d.delta < height (history b (Missed.arc m))
    opens_passed i ref x m =
        let l = last_open d (time_law d acc) (Missed.arc m) (Missed.key m) (enters d v (Missed.arc m) (Missed.on m)).0 in
        let p = Missed.past m in
        let g = begins_height (history x.known (Missed.arc m)) (history b (Missed.arc m)) (x.grows (Missed.arc m)) in
        omega arith

    -- v's own locks first
    own_taken : (i ref : ℕ) (x : Acting i ref) → is_ready d b v ≡ true → i < length d.leaders → leads d v i ≡ true → starts i ≡ ref
        → (c : ℕ) → IsElement c (entering d.graph v) → takes d x.at x.known i (due_key d v w (x.signed i) x.known i) c ≡ true
    own_taken i ref x ready below lead same c on =
        let low = ready_below d b v legal conducted (times_law d acc) ready in
        let is : ready_height d b v ≡ ref =
        ap (λ y. cond y (ready_height d b v) (max (ready_height d b v) (unlock_base d.mode d b v i (first_key b v i)))) (sym lead) ∙ same in
        let h = x.ahead c on in
        let t = x.soon c on in
        takes_due d b v w acc legal conducted wallet x.known x.signed x.at x.grows x.good ready c i below on
        (λ key due. let l = last_of i c ref x key ready below on same due in omega arith)
        (λ key due. unrefunded_low d b v w acc legal conducted wallet x.known x.signed x.at x.grows x.good ready c on (omega arith))

    own_call : (c : ℕ) → is_ready d b v ≡ true → IsElement c (entering d.graph v)
        → times.opening_deadline d.start d.delta d.bound + d.delta < height (history b c) → (j : ℕ) → j < length d.leaders → leads d v j ≡ true
        → (s : ℕ) × UnlockCall d b v c j s
    own_call c ready on over j below lead =
        let law = times_law d acc in
        let in_arc = enters d v c on in
        let arc = in_range c (length d.graph.arcs) in_arc.0 in
        let e = own_starts j c ready on lead in
        let low = ready_below d b v legal conducted law ready in
        let is : starts j ≡ ready_height d b v =
        ap (λ y. cond y (ready_height d b v) (max (ready_height d b v) (unlock_base d.mode d b v j (first_key b v j)))) lead in
        let passed : starts j + d.delta < height (history b c) = omega arith in
        let x = acts j c (starts j) below arc e passed in
        let none =
        not-true (has_missed d v x.signed x.known) (λ t. let m = missed_at x.signed x.known t in let early = earlier j (starts j) x ready m in
        let first = starts_ready (Missed.lock m) in omega arith) in
        let done = done_by j c (starts j) x below e passed none (own_taken j (starts j) x ready below lead refl) in
        let on_time : is_late d b v (OfUnlock j) c ≡ false =
        ap (is_past_due d b v (OfUnlock j) c) e ∙ and_nothing (nat_lt (starts j + d.delta) (height (history b c))) _ done in
        let call = done_in_time d b v conducted legal (OfUnlock j) c on_time (starts j) e passed in
        let u = counted_unlock d b v j c call.now.height call.call call.counted in
        let early = start_early d b v acc legal conducted ready j c u.key below on (λ follows. absurd (false≢true (sym follows ∙ lead))) in
        let soon = call.in_time in (
          starts j + d.delta,
          record {
            past = call.past;
            now = call.now;
            key = u.key;
            stands = call.stands;
            called = call.called ∙ ap Some u.call;
            lock = u.lock;
            in_time = soon;
            last = omega arith;
          },
        )

    taken : (i ref : ℕ) (x : Acting i ref) → is_ready d b v ≡ true → i < length d.leaders → starts i ≡ ref
        → (c : ℕ) → IsElement c (entering d.graph v) → takes d x.at x.known i (due_key d v w (x.signed i) x.known i) c ≡ true
    taken i ref x ready below same c on =
        let h = x.ahead c on in
        let t = x.soon c on in
        takes_due d b v w acc legal conducted wallet x.known x.signed x.at x.grows x.good ready c i below on
        (λ key due. let l = last_of i c ref x key ready below on same due in omega arith)
        (λ key due. unrefunded d b v w acc legal conducted wallet x.known x.signed x.at x.grows x.good ready c i key below on
        (own_call c ready on) due (let l = last_of i c ref x key ready below on same due in omega arith))

    -- where each lock that was to be done before was done, none is missed
    none_missed : (i ref : ℕ) (x : Acting i ref) → is_ready d b v ≡ true
        → ((l c : ℕ) → starts l < ref → l < length d.leaders → IsElement c (entering d.graph v) → reference_height d b v (OfUnlock l) c ≡ Some (starts l)
        → starts l + d.delta < height (history b c) → is_done d b v (OfUnlock l) c (starts l + d.delta) ≡ true)
        → has_missed d v x.signed x.known ≡ true → ⊥
    none_missed i ref x ready before t =
        let m = missed_at x.signed x.known t in
        let law = times_law d acc in
        let c = Missed.arc m in
        let l = Missed.lock m in
        let shown = x.shown (Missed.lock m) (Missed.key m) (Missed.mine m) in
        let passed = shown_passed i ref x ready m in
        let e = shown_starts (Missed.lock m) (Missed.arc m) (Missed.key m) ready (Missed.on m) shown in
        let done = before (Missed.lock m) (Missed.arc m) (earlier i ref x ready m) (Missed.below m) (Missed.on m) e passed in
        let call = call_of (Missed.lock m) (Missed.arc m) (Missed.key m) ready (Missed.below m) (Missed.on m) shown passed done in
        let o =
        opens d b v legal conducted law ready (Missed.arc m) (Missed.lock m) (starts (Missed.lock m) + d.delta) (Missed.on m)
        (own_call (Missed.arc m) ready (Missed.on m) (opens_passed i ref x m)) call in
        let u = opened_done d (Missed.arc m) (history b (Missed.arc m)) (Missed.lock m) o.opening_deadline.opening
        (legal_at d b v conducted legal (Missed.arc m) (enters d v (Missed.arc m) (Missed.on m)).0) o.opening_deadline.opened in
        let at : o.opening_deadline.opening.height ≡ height u.0.past = u.0.at in
        let soon = o.opening_deadline.early in
        let p = Missed.past m in
        let s =
        start_early d b v acc legal conducted ready (Missed.lock m) (Missed.arc m) (Missed.key m) (Missed.below m) (Missed.on m) (λ follows. Presented shown) in
        let n = in_front (history x.known (Missed.arc m)) (history b (Missed.arc m)) u.0.past u.0.now (x.grows (Missed.arc m)) u.0.stands (omega arith) in
        let open_now : is_open (history x.known (Missed.arc m)) (Missed.lock m) ≡ true =
        subst (λ j. is_open (history x.known (Missed.arc m)) j ≡ true) u.1
        (opened-now (history x.known (Missed.arc m)) u.0.past u.0.now o.opening_deadline.opening.key n u.0.took) in
        false≢true (sym (Missed.closed m) ∙ open_now)

    -- so each enabled unlock is done, by the height from which it was to be done
    done_all : (n i a ref : ℕ) → ref < n → (x : Acting i ref) → is_ready d b v ≡ true → i < length d.leaders
        → reference_height d b v (OfUnlock i) a ≡ Some ref → ref + d.delta < height (history b a) → is_done d b v (OfUnlock i) a (ref + d.delta) ≡ true
    done_all zero i a ref less x ready below e above = absurd (omega arith)
    done_all (suc n) i a ref less x ready below e above =
        done_by i a ref x below e above
        (not-true (has_missed d v x.signed x.known) (none_missed i ref x ready (λ l c before low on f passed.
        done_all n l c (starts l) (omega arith) (acts l c (starts l) low (in_range c (length d.graph.arcs) (enters d v c on).0) f passed) ready low f passed)))
        (taken i ref x ready below (start_is i a ref e))

    pub unlocks_timely : UnlocksInTime d b v
    unlocks_timely i a below j = done_not_late d b v d.delta (omega arith) (OfUnlock i) a (λ ref e.
        go ref e (nat_lt (ref + d.delta) (height (history b a))) refl)
      where
        go : (ref : ℕ) → reference_height d b v (OfUnlock i) a ≡ Some ref → (x : Bool) → nat_lt (ref + d.delta) (height (history b a)) ≡ x
            → IsDoneInTime d b v (OfUnlock i) a (ref + d.delta)
        go ref e true h =
            let ready = (enabled_parts d b v i a ref e).ready in
            let x = acts i a ref below j e (ltb-true (ref + d.delta) (height (history b a)) h) in
            inl (done_all (suc ref) i a ref (omega arith) x ready below e (ltb-true (ref + d.delta) (height (history b a)) h))
        go ref e false h = inr (ltb-false (ref + d.delta) (height (history b a)) h)

-- who makes its unlocks in time once it has lost an arc, and saw to the rest, is watchful and safe
pub watches_by : (d : Deal) (v : ℕ) (w : Wallet) (b : Histories) → IsAccepted d → IsLegalBook d b → EnteringHaveEnded d b v → IsConducted d b v
    → (HasLost d b v → UnlocksInTime d b v) → Finished d v w b → AsksAfterPublish d b v → IsWatchful d b v × IsSafe d b v
watches_by d v w b acc legal ended conducted unlocks f asks =
    let last : Last d b v w =
    record {
      known = f.known;
      signed = f.signed;
      knows = f.all;
      held = λ j. hindered d v f.at w f.signed j f.known;
      idle = nothing_else d v f.at w f.signed (all_counted v f.known) f.known (all_counted_reads v f.known) f.done;
      past = f.past;
    } in
    let watchful : IsWatchful d b v =
    record {
      unlocks = λ stake. unlocks_all d b v acc legal ended conducted (unlocks stake);
      claims = λ stake. last_claims d b v w acc legal conducted last;
      refunds = last_refunds d b v w acc legal conducted last asks;
    } in
    (watchful, watchful_is_safe d b v acc legal conducted watchful)

pub timely_is_safe : TimelyIsSafe
timely_is_safe d v w b acc legal ended conducted wallet t =
    watches_by d v w b acc legal ended conducted (λ stake. unlocks_timely d v w b acc legal conducted wallet (λ i a ref below j e above.
    acting d v w b acc legal conducted wallet i ref (t.unlocks stake i a ref below j e above))) t.finished t.asks

-- Rounds.

some_round : (n m t : ℕ) → m < n * t → 1 ≤ n
some_round zero m t l = omega arith
some_round (suc n) m t l = omega arith

module _ (d : Deal) (v : ℕ) (w : Wallet) (ticks slack rounds : ℕ) (books : ℕ → Histories) (acc : IsAccepted d) (some : 1 ≤ ticks)
    (fast : ticks + slack ≤ d.delta) (end : times.horizon d.start d.delta d.bound < rounds * ticks) (x : AreFreeRounds d v w ticks slack rounds books) where
  climb : (m r a : ℕ) → r + m ≡ rounds → Begins (history (books r) a) (history (books rounds) a)
  climb zero r a e = let same : r ≡ rounds =
      omega arith in subst (λ z. Begins (history (books r) a) (history (books z) a)) same (begins_refl (history (books r) a))
  climb (suc m) r a e =
      begins_more (history (books r) a) (history (books (r + 1)) a) (history (books rounds) a) (x.grows r a (omega arith))
      (climb m (r + 1) a (omega arith))

  near_arc : (a : ℕ) → IsNear d v a → a < length d.graph.arcs
  near_arc a (inl i) = (leaves d v a i).0
  near_arc a (inr i) = (enters d v a i).0

  acted : (i a ref : ℕ) → IsElement a (arcs d.graph) → reference_height d (books rounds) v (OfUnlock i) a ≡ Some ref
      → ref + d.delta < height (history (books rounds) a) → ActedOnTime d v w (books rounds) i ref
  acted i a ref j e above =
      let q = next_round ticks some ref in
      let at = x.at rounds a (omega arith) j in
      by q.0 q.1 q.2 (nat_lt q.0 rounds) refl at
    where
      by : (q : ℕ) → ref < q * ticks → q * ticks ≤ ref + ticks → (y : Bool) → nat_lt q rounds ≡ y
          → height (history (books rounds) a) ≡ rounds * ticks → ActedOnTime d v w (books rounds) i ref
      by q low high false h at =
          let past : rounds ≤ q = ltb-false q rounds h in
          let m : rounds * ticks ≤ q * ticks = mul-le-mul_right ticks past in
          absurd (omega arith)
      by q low high true h at =
          let inside = ltb-true q rounds h in
          let t = x.turn q inside in
          record {
            known = t.known;
            signed = t.signed;
            at = t.at;
            grows = λ a. let n =
                t.knows a in begins_more (history t.known a) (history (books (q + 1)) a) (history (books rounds) a) (n.rest, n.whole)
                (climb (rounds - (q + 1)) (q + 1) a (omega arith));
            good = x.good q inside;
            shown = x.shown q inside;
            done = t.done;
            past = λ c i. let h = begins_height (history (books q) c) (history t.known c) (t.seen c i) in let at =
                x.at q c (omega arith) (in_range c (length d.graph.arcs) (near_arc c i)) in omega arith;
            ahead = t.ahead;
            soon = λ c. let h = t.top c in omega arith;
            handed = x.handed q inside i a ref e low;
          }

  finished : Finished d v w (books rounds)
  finished =
      let one = some_round rounds (times.horizon d.start d.delta d.bound) ticks end in
      let last : (rounds - 1) + 1 ≡ rounds = omega arith in
      let t = x.turn (rounds - 1) (omega arith) in
      record {
        known = t.known;
        signed = t.signed;
        at = t.at;
        done = t.done;
        all = λ a. subst (λ z. Knows v (history t.known a) (history (books z) a)) last (t.knows a);
        past = λ a i.
            let low = begins_height (history (books (rounds - 1)) a) (history t.known a) (t.seen a i) in
            let at = x.at (rounds - 1) a (omega arith) (in_range a (length d.graph.arcs) (near_arc a i)) in
            let whole : rounds * ticks ≡ ((rounds - 1) + 1) * ticks = ap (λ z. z * ticks) (sym last) in
            let h = below_horizon d.start d.bound d.delta in
            let e = horizon_above d.start d.bound d.delta in
            omega arith;
      }

  timely : IsTimely d v w (books rounds)
  timely = record { unlocks = λ stake i a ref below j e above. acted i a ref j e above; finished = finished; asks = x.asks }

pub may_stop_publishing : MayStopPublishing
may_stop_publishing d v w ticks slack rounds books acc wallet some fast end x =
    timely_is_safe d v w (books rounds) acc (x.legal rounds (omega arith))
    (λ a l. let at = x.at rounds a (omega arith) (in_range a (length d.graph.arcs) (enters d v a l).0) in omega arith) x.conducted wallet
    (timely d v w ticks slack rounds books acc some fast end x)
