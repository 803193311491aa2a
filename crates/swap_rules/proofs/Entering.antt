-- A party that is ready and conducted opens every arc that enters it, where its unlock calls come
-- while their hashkeys are accepted.
use Rattle.std.proofs.Common.{◌≡◌, ℕ, ◌+◌, ◌<◌, ◌≤◌, true, false, not, ◌-◌, if◌then◌else◌, max, ◌&&◌, List, length, Option, Some, None, is_some, refl}
use Rattle.std.proofs.Common.{sym, ap, ◌∙◌, subst, inl, inr, arith, leb-true}
use Rattle.std.proofs.lemmas.Bool.{false≢true}
use Rattle.swap_base.specs.Lists.{IsElement, IsMoment}
use Rattle.swap_base.proofs.Lists.{any_at, Order, moments_in_order, list_all-in, list_all-from, in_range, from_range, and_parts, and_both, greatest-below}
use Rattle.swap_base.proofs.Lists.{Earlier, Same, Later}
use Rattle.swap_digraph.specs.declared.deal.Deal.{Deal}
use Rattle.swap_digraph.specs.Graph.{arcs, entering, is_listed}
use Rattle.swap_digraph.specs.Deal.{counterparty, locks, leads, lock_hashlock}
use Rattle.hashkey_path.specs.declared.hashkey.Hashkey.{Hashkey}
use Rattle.hashkey_path.specs.Hashkey.{is_wrong_secret, is_wrong_path, is_wrong_signature, is_valid}
use Rattle.escrow_core.specs.Terms.{stated_terms, last_unlock, terms_hashlock, refund_expiry}
use Rattle.ledger_core.specs.declared.entry.Call.TheVariants.{Unlock, Claim, Refund}
use Rattle.ledger_core.specs.declared.entry.Entry.{Entry}
use Rattle.ledger_core.specs.History.{height, accepted, published, Opening, opened, settled, is_open, triggered}
use Rattle.ledger_core.specs.declared.facts.Settlement.TheVariants.{Refunded}
use Rattle.ledger_core.specs.Book.{Histories, history, IsLegalBook}
use Rattle.swap_rules.specs.declared.finding.Rule.TheVariants.{Unlock as ToUnlock, Claim as ToClaim}
use Rattle.swap_rules.specs.Party.{is_correct, publication_height, is_good, is_ready, ready_height, is_triggered, expiry, pick_call, first_key, least_expiry}
use Rattle.swap_rules.specs.Conduct.{is_first_key, keeps, IsConducted}
use Rattle.swap_rules.specs.Late.{height_of_opening, unlock_base, trigger_height, when, reference_height, is_late}
use Rattle.swap_rules.specs.Outcome.{is_claim, is_got, EnteringHaveEnded}
use Rattle.swap_digraph.proofs.Paths.{in-is_listed}
use Rattle.swap_rules.proofs.Words.{and_five, unlock_rule, enters, act_of}
use Rattle.swap_rules.proofs.Times.{TimesLaw}
use Rattle.ledger_core.proofs.History.{refunded_done, of_refund, opened-now, Done, opened_done, OfUnlock, of_unlock, height-past, published-past}
use Rattle.swap_rules.proofs.Effects.{claim_claims}
use Rattle.ledger_core.proofs.History.{legal-past, is_some-of, lock-below}
use Rattle.swap_rules.proofs.Openings.{IsOpenBy, open_by_more, is_open_by, unlock_opens_by, Expired, expired_lock, least-expired, moment_within}
use Rattle.swap_rules.specs.Due.{is_claiming}
use Rattle.swap_rules.specs.Laws.{IsOnTime}
use Rattle.swap_rules.specs.Walking.{UnlocksArc, ClaimsAll}
use Rattle.swap_rules.proofs.Calls.{kept, legal_at, correct, done_in_time, counted_unlock, claiming_is, correct_past}
use Rattle.time_bounds.specs.Times as times

-- v's unlock for lock i on a is enabled, and its due height is in time.
pub record DueUnlock (d : Deal) (b : Histories) (v a i : ℕ) : Type 0 where
  pub within : i < length d.leaders
  pub ref : ℕ
  pub enabled : reference_height d b v (ToUnlock i) a ≡ Some ref
  pub value : ref ≡ (if leads d v i then ready_height d b v else max (ready_height d b v) (unlock_base d.mode d b v i (first_key b v i)))
  pub ends : ref + d.delta ≤ times.horizon d.start d.delta d.bound
  pub early : (key : Hashkey) → is_valid d a (lock_hashlock d key.lock) key ≡ true → is_first_key (first_key b v i) key ≡ true
      → ref + d.delta ≤ last_unlock d.mode (stated_terms d a) key

pub valid_of_unlock : (d : Deal) (a : ℕ) (past : List Entry) (by : ℕ) (key : Hashkey) (u : OfUnlock d a past by key)
    → is_valid d a (terms_hashlock u.contract.terms key.lock) key ≡ true
valid_of_unlock d a past by key u =
    and_both (not (is_wrong_secret (terms_hashlock u.contract.terms key.lock) key) && not (is_wrong_path d a d.mode key)) (not (is_wrong_signature d d.mode key))
    (and_both (not (is_wrong_secret (terms_hashlock u.contract.terms key.lock) key)) (not (is_wrong_path d a d.mode key)) (ap not u.secret) (ap not u.path))
    (ap not u.signature)

-- An unlock call of v for lock i on arc a, at a height of at most t at which its hashkey is
-- accepted.
pub record UnlockCall (d : Deal) (b : Histories) (v a i t : ℕ) : Type 0 where
  pub past : List Entry
  pub now : Entry
  pub key : Hashkey
  pub stands : IsMoment (history b a) past now
  pub called : pick_call v now ≡ Some (Unlock key)
  pub lock : key.lock ≡ i
  pub in_time : now.height ≤ t
  pub last : now.height ≤ last_unlock d.mode (stated_terms d a) key

pub parse_call : (d : Deal) (b : Histories) (v i a : ℕ) → UnlocksArc d b v i a → (t : ℕ) × UnlockCall d b v a i t
parse_call d b v i a u = (
  u.now.height,
  record {
    past = u.past;
    now = u.now;
    key = u.key;
    stands = u.stands;
    called = u.called;
    lock = u.lock;
    in_time = omega arith;
    last = u.in_time;
  },
)

-- v is nowhere late with an unlock
abbrev pub UnlocksInTime : Deal → Histories → ℕ → Type 0
UnlocksInTime d b v = (i a : ℕ) → i < length d.leaders → IsElement a (arcs d.graph) → is_late d b v (ToUnlock i) a ≡ false

pub unlocks_in_time : (d : Deal) (b : Histories) (v : ℕ) → IsOnTime d b v → UnlocksInTime d b v
unlocks_in_time d b v on_time i a below j = on_time (ToUnlock i) a (unlock_rule d i below) j

-- an unlock that is due, and isn't late, is called by its due height
pub call_due : (d : Deal) (b : Histories) (v : ℕ) → IsLegalBook d b → EnteringHaveEnded d b v → IsConducted d b v → UnlocksInTime d b v → (a i : ℕ)
    → IsElement a (entering d.graph v) → (due : DueUnlock d b v a i) → UnlockCall d b v a i (due.ref + d.delta)
unfolding keeps
call_due d b v legal ended conducted unlocks a i w due =
    let in_arc = enters d v a w in
    let now_ended : times.horizon d.start d.delta d.bound < height (history b a) = ended a w in
    let ends : due.ref + d.delta ≤ times.horizon d.start d.delta d.bound = due.ends in
    let passed : due.ref + d.delta < height (history b a) = omega arith in
    let done =
    done_in_time d b v conducted legal (ToUnlock i) a (unlocks i a due.within (in_range a (length d.graph.arcs) in_arc.0)) due.ref due.enabled
    passed in
    let u = counted_unlock d b v i a done.now.height done.call done.counted in
    let called : pick_call v done.now ≡ Some (Unlock u.key) = done.called ∙ ap Some u.call in
    let k =
    and_five (is_some (published done.past)) (is_ready d b v) (is_first_key (first_key b v u.key.lock) u.key)
    (is_valid d a (lock_hashlock d u.key.lock) u.key) _ (kept d b v conducted a done.past done.now (Unlock u.key) done.stands called) in
    let early : due.ref + d.delta ≤ last_unlock d.mode (stated_terms d a) u.key = due.early u.key k.3 u.first in
    let in_time : done.now.height ≤ due.ref + d.delta = done.in_time in
    record {
      past = done.past;
      now = done.now;
      key = u.key;
      stands = done.stands;
      called = called;
      lock = u.lock;
      in_time = in_time;
      last = omega arith;
    }

-- An unlock that is accepted on arc a at this height, and before lock i expires.
pub record IsTaken (d : Deal) (a i : ℕ) (key : Hashkey) (at : ℕ) : Type 0 where
  pub below : key.lock < length d.leaders
  pub valid : is_valid d a (lock_hashlock d key.lock) key ≡ true
  pub last : at ≤ last_unlock d.mode (stated_terms d a) key
  pub expiry : at ≤ expiry d a i

-- what an unlock call leaves
pub record Unlocked (d : Deal) (b : Histories) (v a i t : ℕ) : Type 0 where
  pub opening_deadline : IsOpenBy (history b a) i t
  pub key : Hashkey
  pub first : is_first_key (first_key b v i) key ≡ true
  pub lock : key.lock ≡ i
  pub valid : is_valid d a (lock_hashlock d key.lock) key ≡ true

-- A correct entering arc.

module _ (d : Deal) (b : Histories) (v : ℕ) (legal : IsLegalBook d b) (conducted : IsConducted d b v) (law : TimesLaw d) where
  -- a lock of an entering arc was opened at most at its expiry
  pub opened_by_expiry : (a i : ℕ) → IsElement a (entering d.graph v) → is_correct d b a ≡ true → height_of_opening (opened (history b a) i) ≤ expiry d a i
  opened_by_expiry a i w right = go (opened (history b a) i) refl
    where
      go : (o : Option Opening) → opened (history b a) i ≡ o → height_of_opening o ≤ expiry d a i
      go None e = omega arith
      go (Some o) e =
          let in_arc = enters d v a w in
          let u = opened_done d a (history b a) i o (legal_at d b v conducted legal a in_arc.0) e in
          let of_u = of_unlock d a u.0.past u.0.act.by o.key u.0.clear in
          let terms : of_u.contract.terms ≡ stated_terms d a =
          correct_past d b a u.0.past u.0.now of_u.contract (correct d b a right) u.0.stands of_u.published in
          let valid : is_valid d a (lock_hashlock d o.key.lock) o.key ≡ true =
          subst (λ t. is_valid d a (terms_hashlock t o.key.lock) o.key ≡ true) terms (valid_of_unlock d a u.0.past u.0.act.by o.key of_u) in
          let last : last_unlock d.mode (stated_terms d a) o.key ≤ expiry d a i =
          subst (λ j. last_unlock d.mode (stated_terms d a) o.key ≤ expiry d a j) u.1 (law.last a o.key in_arc.0 (lock-below d a o.key u.0.act.fits) valid)
          in
          let in_time : height u.0.past ≤ last_unlock d.mode (stated_terms d a) o.key = subst
          (λ t. height u.0.past ≤ last_unlock d.mode t o.key) terms of_u.in_time in
          let at : o.height ≡ height u.0.past = u.0.at in
          omega arith

  pub claim_enabled : (a : ℕ) → IsElement a (entering d.graph v) → is_correct d b a ≡ true → is_triggered d b a ≡ true → reference_height d b v ToClaim a ≡ Some (trigger_height d (history b a))
  unfolding reference_height
  claim_enabled a w right t = ap (λ x. when x (trigger_height d (history b a)))
      (and_both (is_listed a (entering d.graph v) && is_correct d b a) (is_triggered d b a)
      (and_both (is_listed a (entering d.graph v)) (is_correct d b a) (in-is_listed a (entering d.graph v) w) right) t)

  pub trigger_ends : (a : ℕ) → IsElement a (entering d.graph v) → is_correct d b a ≡ true → trigger_height d (history b a) + d.delta ≤ times.horizon d.start d.delta d.bound
  trigger_ends a w right =
      let in_arc = enters d v a w in
      let some = law.ends a 0 in_arc.0 in
      let low : trigger_height d (history b a) ≤ times.horizon d.start d.delta d.bound - d.delta =
      greatest-below (λ i. height_of_opening (opened (history b a) i)) (locks d) (times.horizon d.start d.delta d.bound - d.delta)
      (λ i z. let x = opened_by_expiry a i w right in let y = law.ends a i in_arc.0 in omega arith) in
      omega arith

-- A party that is ready.

module _ (d : Deal) (b : Histories) (v : ℕ) (legal : IsLegalBook d b) (conducted : IsConducted d b v) (law : TimesLaw d)
    (ready : is_ready d b v ≡ true) where
  pub good_entering : (a : ℕ) → IsElement a (entering d.graph v) → is_good d b a ≡ true
  unfolding is_ready
  good_entering a i = list_all-in (is_good d b) (entering d.graph v) a ready i

  pub correct_entering : (a : ℕ) → IsElement a (entering d.graph v) → is_correct d b a ≡ true
  correct_entering a i = (and_parts (is_correct d b a) _ (good_entering a i)).0

  pub ready_below : ready_height d b v ≤ times.opening_deadline d.start d.delta d.bound
  unfolding ready_height
  ready_below = greatest-below (λ a. publication_height (published (history b a))) (entering d.graph v) (times.opening_deadline d.start d.delta d.bound)
      (λ a w. leb-true _ _ (and_parts (is_correct d b a) _ (good_entering a w)).1)

  -- a refund that was accepted on an entering arc, above the expiry of a lock that was closed then
  pub record RefundIn (a : ℕ) (past : List Entry) : Type 0 where
    pub before : List Entry
    pub now : Entry
    pub stands : IsMoment past before now
    pub took : accepted now ≡ Some Refund
    pub expired : Expired d a before (height before)

  pub read_refund : (a : ℕ) (past : List Entry) (e : Entry) → IsElement a (entering d.graph v) → IsMoment (history b a) past e → settled past ≡ Some Refunded
      → RefundIn a past
  read_refund a past e w m s =
      let in_arc = enters d v a w in
      let r = (refunded_done d a past (legal-past d a (history b a) past e (legal_at d b v conducted legal a in_arc.0) m) s).1 in
      let of_r = of_refund d a r.past r.act.by r.clear in
      let terms : of_r.contract.terms ≡ stated_terms d a =
      correct_past d b a past e of_r.contract (correct d b a (correct_entering a w)) m
      (published-past past r.past r.now of_r.contract r.stands of_r.published) in
      let above : least_expiry d a r.past < height r.past = subst (λ t. refund_expiry d a t (is_open r.past) < height r.past) terms of_r.expired in
      record {
        before = r.past;
        now = r.now;
        stands = r.stands;
        took = r.took;
        expired = expired_lock d a r.past (height r.past) (least-expired d a r.past (height r.past) of_r.untriggered above);
      }

  -- an entering arc that is triggered was claimed
  pub claims : ClaimsAll d b v → (a : ℕ) → IsElement a (entering d.graph v) → is_triggered d b a ≡ true → is_got d b a ≡ true
  unfolding keeps
  claims claimed a w t =
      let in_arc = enters d v a w in
      let l = legal_at d b v conducted legal a in_arc.0 in
      let done = any_at (λ e. is_claiming (pick_call v e)) (history b a) (claimed a w (correct_entering a w) t) in
      let called : pick_call v done.now ≡ Some Claim = claiming_is (pick_call v done.now) done.passes in
      let act = act_of d a (history b a) done.past done.now Claim v l done.stands called in
      let all_open : triggered d done.past ≡ true = kept d b v conducted a done.past done.now Claim done.stands called in
      let o = is_some-of (opened done.past 0) (list_all-in (is_open done.past) (locks d) 0 all_open (in_range 0 (length d.leaders) law.lock)) in
      let u = opened_done d a done.past 0 o.0 (legal-past d a (history b a) done.past done.now l done.stands) o.1 in
      let of_u = of_unlock d a u.0.past u.0.act.by o.0.key u.0.clear in
      let pub_past = published-past done.past u.0.past u.0.now of_u.contract u.0.stands of_u.published in
      let by : act.0.by ≡ counterparty d a = act.1 ∙ sym in_arc.1 in
      and_both (is_correct d b a) (is_claim (settled (history b a))) (correct_entering a w)
      (ap is_claim (claim_claims d a (history b a) done.past done.now of_u.contract l done.stands act.0 by pub_past all_open))

  -- an unlock call opens its lock, where no refund came before it
  pub opens_unless : (a i t : ℕ) → IsElement a (entering d.graph v) → (call : UnlockCall d b v a i t)
      → ((past : List Entry) (e : Entry) → IsMoment (history b a) past e → IsTaken d a i call.key (height past) → RefundIn a past → ⊥)
      → Unlocked d b v a i t
  unfolding keeps
  opens_unless a i t w call unrefunded =
      let in_arc = enters d v a w in
      let l = legal_at d b v conducted legal a in_arc.0 in
      let act = act_of d a (history b a) call.past call.now (Unlock call.key) v l call.stands call.called in
      let k =
      and_five (is_some (published call.past)) (is_ready d b v) (is_first_key (first_key b v call.key.lock) call.key)
      (is_valid d a (lock_hashlock d call.key.lock) call.key) _ (kept d b v conducted a call.past call.now (Unlock call.key) call.stands call.called) in
      let p = is_some-of (published call.past) k.0 in
      let terms : p.0.terms ≡ stated_terms d a = correct_past d b a call.past call.now p.0 (correct d b a (correct_entering a w)) call.stands p.1 in
      let by : act.0.by ≡ counterparty d a = act.1 ∙ sym in_arc.1 in
      let at : call.now.height ≡ height call.past = act.0.at in
      let below = lock-below d a call.key act.0.fits in
      let last : last_unlock d.mode (stated_terms d a) call.key ≤ expiry d a i =
      subst (λ j. last_unlock d.mode (stated_terms d a) call.key ≤ expiry d a j) call.lock (law.last a call.key in_arc.0 below k.3) in
      let t3 = call.in_time in
      let t4 = call.last in
      let t0 : height call.past ≤ t = omega arith in
      let t1 : height call.past ≤ last_unlock d.mode (stated_terms d a) call.key = omega arith in
      let t2 : height call.past ≤ expiry d a i = omega arith in
      let o = unlock_opens_by d a (history b a) call.past call.now call.key p.0 l call.stands act.0 by p.1
      (subst (λ t. is_valid d a (terms_hashlock t call.key.lock) call.key ≡ true) (sym terms) k.3)
      (subst (λ t. height call.past ≤ last_unlock d.mode t call.key) (sym terms) t1)
      (λ s. unrefunded call.past call.now call.stands (record { below = below; valid = k.3; last = t1; expiry = t2 })
      (read_refund a call.past call.now w call.stands s)) in
      record {
        opening_deadline = open_by_more (history b a) i (height call.past) t t0 (subst (λ j. IsOpenBy (history b a) j (height call.past)) call.lock o);
        key = call.key;
        first = subst (λ j. is_first_key (first_key b v j) call.key ≡ true) call.lock k.2;
        lock = call.lock;
        valid = k.3;
      }

  -- v's own lock is opened before any lock expires
  pub opens_own : (a i t : ℕ) → IsElement a (entering d.graph v) → leads d v i ≡ true → UnlockCall d b v a i t → Unlocked d b v a i t
  opens_own a i t w lead call = opens_unless a i t w call (λ past e m taken r.
      let in_arc = enters d v a w in
      let own : leads d (counterparty d a) call.key.lock ≡ true =
      subst (λ u. leads d u call.key.lock ≡ true) (sym in_arc.1) (subst (λ j. leads d v j ≡ true) (sym call.lock) lead) in
      let x = law.own a r.expired.lock call.key in_arc.0 taken.below taken.valid own in
      let y = r.expired.above in
      let z = height-past past r.before r.now r.stands in
      let q = taken.last in
      absurd (omega arith))

  -- an unlock call opens its lock: no refund comes before it, since v opened its own locks before
  -- these expired
  pub opens : (a i t : ℕ) → IsElement a (entering d.graph v) → ((j : ℕ) → j < length d.leaders → leads d v j ≡ true → (s : ℕ) × UnlockCall d b v a j s)
      → UnlockCall d b v a i t → Unlocked d b v a i t
  opens a i t w owns call = opens_unless a i t w call (λ past e m taken r.
      let in_arc = enters d v a w in
      let y = r.expired.above in
      let z = height-past past r.before r.now r.stands in
      let low = taken.expiry in
      elim (law.early a i r.expired.lock in_arc.0) [
        | inl l ↦ absurd (omega arith)
        | inr x ↦
            let lead : leads d v r.expired.lock ≡ true = subst (λ u. leads d u r.expired.lock ≡ true) in_arc.1 x.own in
            let mine = owns r.expired.lock (from_range r.expired.lock (length d.leaders) r.expired.within) lead in
            let own = opens_own a r.expired.lock mine.0 w lead mine.1 in
            let u = opened_done d a (history b a) r.expired.lock own.opening_deadline.opening
            (legal_at d b v conducted legal a in_arc.0) own.opening_deadline.opened in
            let before : height_of_opening (opened (history b a) r.expired.lock) ≤ expiry d a r.expired.lock =
            opened_by_expiry d b v legal conducted law a r.expired.lock w (correct_entering a w) in
            let same : height_of_opening (opened (history b a) r.expired.lock)
            ≡ own.opening_deadline.opening.height = ap height_of_opening own.opening_deadline.opened in
            let at = u.0.at in
            in_order a past r own.opening_deadline.opening.key u.1 u.0 (omega arith)
            (moments_in_order (history b a) u.0.past r.before u.0.now r.now u.0.stands
            (moment_within (history b a) past r.before e r.now m r.stands))
      ])
    where
      in_order : (a : ℕ) (past : List Entry) (r : RefundIn a past) {t : ℕ} (key : Hashkey) → key.lock ≡ r.expired.lock
          → (u : Done d a (history b a) (Unlock key) t) → height u.past < height r.before → Order u.past u.now r.before r.now → ⊥
      in_order a past r key e u l (Earlier n) =
          false≢true (sym r.expired.closed ∙ (ap (is_open r.before) (sym e) ∙ opened-now r.before u.past u.now key n u.took))
      in_order a past r key e u l (Same p q) = let k : Some (Unlock key) ≡ Some Refund = sym u.took ∙ (ap accepted q ∙ r.took) in cc k
      in_order a past r key e u l (Later n) = let z = height-past u.past r.before r.now n in absurd (omega arith)

  -- where v makes its unlock calls on every entering arc, it gets them all
  pub gets_all : ClaimsAll d b v → ((a i : ℕ) → IsElement a (entering d.graph v) → IsElement i (locks d) → (t : ℕ) × UnlockCall d b v a i t) → (a : ℕ)
      → IsElement a (entering d.graph v) → is_got d b a ≡ true
  gets_all claimed calls a w =
      claims claimed a w (list_all-from (is_open (history b a)) (locks d) (λ i z.
      let c = calls a i w z in
      is_open_by (history b a) i c.0 (opens a i c.0 w (λ j l e. calls a j w (in_range j (length d.leaders) l)) c.1).opening_deadline))
