-- What is answered is accepted; a missed arc is never paid; who has lost may unlock everything.
use Rattle.std.proofs.Common.{◌≡◌, ◌⊎◌, ℕ, ◌+◌, ◌<◌, ◌≤◌, ◌==◌, nat_le, nat_lt, Bool, true, false, cond, not, ◌&&◌, ◌||◌, List, [], ◌∷◌, length}
use Rattle.std.proofs.Common.{count_by, Option, Some, None, is_some, is_none, refl, sym, ap, ◌∙◌, subst, inl, inr, arith, leb-true, le-leb, ltb-true, eqb-true, eq-eqb, lt-ltb}
use Rattle.std.specs.List.{flat_map}
use Rattle.std.proofs.lemmas.Bool.{false≢true}
use Rattle.std.proofs.lemmas.List.Sums.{sum_by-cons}
use Rattle.swap_base.specs.Lists.{IsElement, IsMoment}
use Rattle.swap_base.proofs.Lists.{first_given_answer-front, and_parts, list_all-in, in_range, from_range}
use Rattle.swap_digraph.specs.declared.deal.Deal.{Deal}
use Rattle.swap_digraph.specs.Graph.{leaving, entering}
use Rattle.swap_digraph.specs.Deal.{counterparty, locks, lock_hashlock}
use Rattle.hashkey_path.specs.declared.hashkey.Hashkey.{Hashkey}
use Rattle.hashkey_path.specs.Hashkey.{is_wrong_secret, is_wrong_path, is_wrong_signature, is_valid}
use Rattle.escrow_core.specs.declared.terms.Terms.{Terms}
use Rattle.escrow_core.specs.declared.reply.Reply.TheVariants.{Accepted}
use Rattle.escrow_core.specs.Terms.{stated_terms, last_unlock, terms_hashlock}
use Rattle.ledger_core.specs.declared.entry.Call.{Call}
use Rattle.ledger_core.specs.declared.entry.Call.TheVariants.{Publish, Unlock, Claim, Refund}
use Rattle.ledger_core.specs.declared.entry.Entry.{Entry}
use Rattle.ledger_core.specs.declared.facts.Settlement.{Settlement}
use Rattle.ledger_core.specs.declared.facts.Settlement.TheVariants.{Claimed, Refunded}
use Rattle.ledger_core.specs.History.{height, accepted, settling, published, publication_terms, the_terms, Opening, opened, settled, is_open, rows, history_reply}
use Rattle.ledger_core.specs.Book.{Histories, history, IsLegalBook}
use Rattle.ledger_core.proofs.History.{from_clear, of_unlock, opened_done, claimed_done, of_claim, opened-now, triggered-past, not-true, not-true-of}
use Rattle.swap_rules.specs.declared.outcome.Outcome.TheVariants.{Underwater}
use Rattle.swap_rules.specs.Party.{is_correct, is_ready, is_triggered}
use Rattle.swap_rules.specs.Conduct.{keeps, IsConducted, is_first_key}
use Rattle.swap_rules.specs.Party.{first_key}
use Rattle.swap_rules.specs.Due.{Wallet, Action, has_called, unlocks_lock, is_due_publish, is_due_claim, is_due_refund, due_key, presented, may_unlock, due_arc_unlock}
use Rattle.swap_rules.specs.Due.{when_due, due_claims, due_refunds}
use Rattle.swap_rules.specs.Machine.{Begins, IsWallet, IsGoodKey}
use Rattle.swap_rules.specs.Outcome.{is_claim, is_got, got, lost, outcome}
use Rattle.swap_rules.specs.Laws.{IsUnforged}
use Rattle.swap_rules.specs.Walking.{HasLost}
use Rattle.swap_rules.proofs.Accepted.{time_law}
use Rattle.swap_rules.proofs.Calls.{kept, legal_at, correct, correct_past}
use Rattle.swap_rules.proofs.DueKeys.{key_rule}
use Rattle.swap_rules.proofs.Growth.{is_open-more, published-more, ready_good}
use Rattle.swap_rules.proofs.Leaving.{Passing}
use Rattle.swap_rules.proofs.Prefixes.{begins_refl, split, in_any, from_flat_map}
use Rattle.swap_rules.proofs.SafeHashkeys.{passing_hashkeys}
use Rattle.swap_rules.proofs.SafeTimelocks.{passing_timelocks}
use Rattle.swap_rules.proofs.Times.{TimeLaw, OfTimelocks, OfHashkeys}
use Rattle.swap_rules.proofs.Words.{and_three, and_five, enters, pick_call-act}
use Rattle.swap_rules.specs.Counted.{all_counted}
use Rattle.swap_rules.specs.Useful.{opens_in_time, accepts, takes, is_withheld, timely_unlock, pressing_unlocks, useful_publishes, useful_unlocks, useful}
use Rattle.wallet_promise.specs.Landing.{IsInOrder, LandsOpen, AnsweredIsAccepted, AnsweredOpens, LandsLate, MissedIsNeverPaid, LostIsEnabled}
use Rattle.swap_rules.proofs.Counted.{all_counted_reads}
use Rattle.swap_rules.proofs.Pressing.{same_ready, same_key, same_takes}
use Rattle.swap_rules.proofs.Useful.{by_parts, if_in, unless_in}
use Rattle.time_bounds.specs.Times as times

-- What a useful call is.

when_due_in : (test : Bool) (a : ℕ) (c : Call) (x : Action) → IsElement x (when_due test a c) → (test ≡ true) × (x.arc ≡ a) × (x.call ≡ c)
when_due_in true a c x (inl e) = (refl, ap (λ y. y.arc) e, ap (λ y. y.call) e)
when_due_in true a c x (inr i) = absurd i
when_due_in false a c x i = absurd i

present_in : (a : ℕ) (o : Option Hashkey) (x : Action) → IsElement x (presented a o) → (key : Hashkey) × (o ≡ Some key) × (x.arc ≡ a) × (x.call ≡ Unlock key)
present_in a None x i = absurd i
present_in a (Some key) x (inl e) = (key, refl, ap (λ y. y.arc) e, ap (λ y. y.call) e)
present_in a (Some key) x (inr i) = absurd i

when_in : (test : Bool) (xs : List Action) (x : Action) → IsElement x (cond test xs []) → test ≡ true
when_in true xs x i = refl
when_in false xs x i = absurd i

-- a useful unlock is due for a lock on an entering arc, which takes its hashkey
pub record IsTimelyUnlock (d : Deal) (v : ℕ) (at : ℕ → ℕ) (w : Wallet) (signed : ℕ → Option Hashkey) (k : Histories) (a : ℕ) (key : Hashkey) : Type 0 where
  pub lock : ℕ
  pub below : lock < length d.leaders
  pub on : IsElement a (entering d.graph v)
  pub ready : is_ready d k v ≡ true
  pub due : due_key d v w (signed lock) k lock ≡ Some key
  pub taken : takes d at k lock (Some key) a ≡ true

module _ (d : Deal) (v : ℕ) (at : ℕ → ℕ) (w : Wallet) (signed : ℕ → Option Hashkey) (k : Histories) (x : Action) where
  pub timely_of : (key : Hashkey) → IsElement x (useful d v at w signed k) → x.call ≡ Unlock key → IsTimelyUnlock d v at w signed k x.arc key
  unfolding useful due_arc_unlock
  timely_of key i is =
      by_parts x (useful_publishes d v at k) (useful_unlocks d v at w signed k) (due_claims d v k) (due_refunds d v k) _ (record {
        publish = λ j.
            let f = from_flat_map (λ a. when_due (is_due_publish d v k a && opens_in_time d at a) a (Publish (stated_terms d a))) (leaving d.graph v) x j in
            let t = when_due_in (is_due_publish d v k f.0 && opens_in_time d at f.0) f.0 (Publish (stated_terms d f.0)) x f.2 in
            absurd (cc (sym is ∙ t.2));
        unlock = unlock;
        claim = λ j.
            let f = from_flat_map (λ a. when_due (is_due_claim d v k a) a Claim) (entering d.graph v) x j in
            let t = when_due_in (is_due_claim d v k f.0) f.0 Claim x f.2 in
            absurd (cc (sym is ∙ t.2));
        refund = λ j.
            let f = from_flat_map (λ a. when_due (is_due_refund d v k a) a Refund) (leaving d.graph v) x j in
            let t = when_due_in (is_due_refund d v k f.0) f.0 Refund x f.2 in
            absurd (cc (sym is ∙ t.2));
      }) i
    where
      unlock : IsElement x (useful_unlocks d v at w signed k) → IsTimelyUnlock d v at w signed k x.arc key
      unlock j =
          let f = from_flat_map (pressing_unlocks d v at w signed k) (locks d) x j in
          let u =
          unless_in (is_withheld d v at signed k f.0 (due_key d v w (signed f.0) k f.0))
          (flat_map (timely_unlock d v at w (signed f.0) k f.0) (entering d.graph v)) x f.2 in
          let g = from_flat_map (timely_unlock d v at w (signed f.0) k f.0) (entering d.graph v) x u in
          let taken = when_in (takes d at k f.0 (due_key d v w (signed f.0) k f.0) g.0) (due_arc_unlock d v w (signed f.0) k f.0 g.0) x g.2 in
          let here = if_in (takes d at k f.0 (due_key d v w (signed f.0) k f.0) g.0) (due_arc_unlock d v w (signed f.0) k f.0 g.0) x g.2 in
          let may = when_in (may_unlock d v k f.0 g.0) (presented g.0 (due_key d v w (signed f.0) k f.0)) x here in
          let p =
          present_in g.0 (due_key d v w (signed f.0) k f.0) x
          (if_in (may_unlock d v k f.0 g.0) (presented g.0 (due_key d v w (signed f.0) k f.0)) x here) in
          let key_is : p.0 ≡ key = cc (sym p.3 ∙ is) in
          let due : due_key d v w (signed f.0) k f.0 ≡ Some key = p.1 ∙ ap Some key_is in
          record {
            lock = f.0;
            below = from_range f.0 (length d.leaders) f.1;
            on = subst (λ a. IsElement a (entering d.graph v)) (sym p.2) g.1;
            ready = (and_parts (is_ready d k v) (not (has_called v (unlocks_lock f.0) (history k g.0))) may).0;
            due = due;
            taken = ap (λ o. takes d at k f.0 o x.arc) (sym due) ∙ (ap (takes d at k f.0 (due_key d v w (signed f.0) k f.0)) p.2 ∙ taken);
          }

  pub opens_of : (t : Terms) → IsElement x (useful d v at w signed k) → x.call ≡ Publish t
      → (t ≡ stated_terms d x.arc) × (at x.arc ≤ times.opening_deadline d.start d.delta d.bound)
  unfolding useful due_arc_unlock
  opens_of t i is =
      by_parts x (useful_publishes d v at k) (useful_unlocks d v at w signed k) (due_claims d v k) (due_refunds d v k) _ (record {
        publish = λ j.
            let f = from_flat_map (λ a. when_due (is_due_publish d v k a && opens_in_time d at a) a (Publish (stated_terms d a))) (leaving d.graph v) x j in
            let q = when_due_in (is_due_publish d v k f.0 && opens_in_time d at f.0) f.0 (Publish (stated_terms d f.0)) x f.2 in
            let early = (and_parts (is_due_publish d v k f.0) (opens_in_time d at f.0) q.0).1 in
            let same : t ≡ stated_terms d f.0 = cc (sym is ∙ q.2) in
            (same ∙ ap (stated_terms d) (sym q.1), leb-true (at x.arc) (times.opening_deadline d.start d.delta d.bound) (ap (opens_in_time d at) q.1 ∙ early));
        unlock = λ j.
            let f = from_flat_map (pressing_unlocks d v at w signed k) (locks d) x j in
            let u =
            unless_in (is_withheld d v at signed k f.0 (due_key d v w (signed f.0) k f.0))
            (flat_map (timely_unlock d v at w (signed f.0) k f.0) (entering d.graph v)) x f.2 in
            let g = from_flat_map (timely_unlock d v at w (signed f.0) k f.0) (entering d.graph v) x u in
            let here = if_in (takes d at k f.0 (due_key d v w (signed f.0) k f.0) g.0) (due_arc_unlock d v w (signed f.0) k f.0 g.0) x g.2 in
            let p =
            present_in g.0 (due_key d v w (signed f.0) k f.0) x
            (if_in (may_unlock d v k f.0 g.0) (presented g.0 (due_key d v w (signed f.0) k f.0)) x here) in
            absurd (cc (sym is ∙ p.3));
        claim = λ j.
            let f = from_flat_map (λ a. when_due (is_due_claim d v k a) a Claim) (entering d.graph v) x j in
            let q = when_due_in (is_due_claim d v k f.0) f.0 Claim x f.2 in
            absurd (cc (sym is ∙ q.2));
        refund = λ j.
            let f = from_flat_map (λ a. when_due (is_due_refund d v k a) a Refund) (leaving d.graph v) x j in
            let q = when_due_in (is_due_refund d v k f.0) f.0 Refund x f.2 in
            absurd (cc (sym is ∙ q.2));
      }) i

pub answered_opens : AnsweredOpens
answered_opens d v at w kept k x t i is = opens_of d v at w kept k x t i is

-- What is answered is accepted.

good_by : (d : Deal) (v : ℕ) (w : Wallet) (kept : ℕ → Option Hashkey) (k : Histories) (i : ℕ) (key : Hashkey) → IsLegalBook d k → IsWallet d v w
    → IsInOrder d v kept k → i < length d.leaders → (o : Option Hashkey) → kept i ≡ o → due_key d v w o k i ≡ Some key → IsGoodKey d v i key
unfolding due_key
good_by d v w kept k i key legal wallet order below None q e =
    let r = key_rule d v w k legal wallet order.own (λ j. None) k (λ j z f. absurd (cc f)) (λ c. begins_refl (history k c)) i key below e in r.good
good_by d v w kept k i key legal wallet order below (Some z) q e = order.good i key (q ∙ e)

module _ (d : Deal) (v : ℕ) (at : ℕ → ℕ) (w : Wallet) (kept : ℕ → Option Hashkey) (k : Histories) (a : ℕ) (key : Hashkey) (h : List Entry)
    (legal : IsLegalBook d k) (wallet : IsWallet d v w) (order : IsInOrder d v kept k) (t : IsTimelyUnlock d v at w kept (all_counted v k) a key)
    (lands : LandsOpen v key.lock (at a) (history k a) h) where
  good : IsGoodKey d v t.lock key
  good =
      good_by d v w kept k t.lock key legal wallet order t.below (kept t.lock) refl
      (sym (same_key d v at w kept (all_counted v k) k (all_counted_reads v k) (kept t.lock) t.lock) ∙ t.due)

  right : is_correct d k a ≡ true
  right =
      let ready = sym (same_ready d v at w kept (all_counted v k) k (all_counted_reads v k)) ∙ t.ready in
      (and_parts (is_correct d k a) _ (ready_good d k v a ready t.on)).0

  terms_now : the_terms h ≡ stated_terms d a
  terms_now =
      let c = correct d k a right in
      ap publication_terms (published-more (history k a) h c.contract lands.later c.published) ∙ c.terms

  there : is_none (published h) ≡ false
  there = let c = correct d k a right in ap is_none (published-more (history k a) h c.contract lands.later c.published)

  last : height h ≤ last_unlock d.mode (stated_terms d a) key
  last = go (is_open (history k a) t.lock) refl
    where
      go : (x : Bool) → is_open (history k a) t.lock ≡ x → height h ≤ last_unlock d.mode (stated_terms d a) key
      go true e =
          let g = good in
          absurd (false≢true (sym lands.closed ∙ subst (λ i. is_open h i ≡ true) (sym g.lock) (is_open-more (history k a) h t.lock lands.later e)))
      go false e =
          let taken = sym (same_takes d v at w kept (all_counted v k) k (all_counted_reads v k) t.lock (Some key) a) ∙ t.taken in
          let p =
          and_parts (is_none (settled (history k a))) (nat_le (at a) (last_unlock d.mode (stated_terms d a) key))
          (ap (λ x. x || accepts d at k (Some key) a) (sym e) ∙ taken) in
          let l = leb-true (at a) (last_unlock d.mode (stated_terms d a) key) p.1 in
          let m = lands.low in
          omega arith

  pub taken_reply : history_reply d a h v (Unlock key) ≡ Accepted
  unfolding rows
  taken_reply =
      let g = good in
      let parts =
      and_three (not (is_wrong_secret (lock_hashlock d key.lock) key)) (not (is_wrong_path d a d.mode key)) (not (is_wrong_signature d d.mode key))
      (g.valid a t.on) in
      let counter = ap not (eq-eqb v (counterparty d a) (sym (enters d v a t.on).1)) in
      let secret : is_wrong_secret (terms_hashlock (the_terms h) key.lock) key ≡ false =
      ap (λ (y : Terms). is_wrong_secret (terms_hashlock y key.lock) key) terms_now ∙ not-true-of (is_wrong_secret (lock_hashlock d key.lock) key) parts.0 in
      let in_time : nat_lt (last_unlock d.mode (the_terms h) key) (height h) ≡ false =
      ap (λ (y : Terms). nat_lt (last_unlock d.mode y key) (height h)) terms_now
      ∙ not-true (nat_lt (last_unlock d.mode (stated_terms d a) key) (height h)) (λ e.
      let l = ltb-true (last_unlock d.mode (stated_terms d a) key) (height h) e in let m = last in omega arith) in
      from_clear (rows d a h v (Unlock key)) (
        lands.room,
        (
          there,
          (
            ap is_some lands.unsettled,
            (
              counter,
              (
                lands.closed,
                (
                  secret,
                  (
                    not-true-of (is_wrong_path d a d.mode key) parts.1,
                    (not-true-of (is_wrong_signature d d.mode key) parts.2, (in_time, tt)),
                  ),
                ),
              ),
            ),
          ),
        ),
      )

pub answered_is_accepted : AnsweredIsAccepted
answered_is_accepted d v at w kept k x key h legal wallet order i is lands =
    taken_reply d v at w kept k x.arc key h legal wallet order (timely_of d v at w kept (all_counted v k) x key i is) lands

-- A missed arc.

count_at_most : {A : Type 0} (p : A → Bool) (xs : List A) → count_by p xs ≤ length xs
count_at_most p [] = omega arith
count_at_most p (y ∷ ys) =
    let e : count_by p (y ∷ ys) ≡ cond (p y) 1 0 + count_by p ys = sum_by-cons (λ z. cond (p z) 1 0) y ys in
    let r = count_at_most p ys in
    go (p y) (cond (p y) 1 0) refl e r
  where
    go : (b : Bool) (n : ℕ) → cond {A = ℕ} b 1 0 ≡ n → count_by p (y ∷ ys) ≡ n + count_by p ys → count_by p ys ≤ length ys
        → count_by p (y ∷ ys) ≤ length (y ∷ ys)
    go true n z e r = let o : ◌≡◌ {A = ℕ} 1 n = z in omega arith
    go false n z e r = let o : ◌≡◌ {A = ℕ} 0 n = z in omega arith

count_less : {A : Type 0} (p : A → Bool) (xs : List A) (x : A) → IsElement x xs → p x ≡ false → count_by p xs < length xs
count_less p [] x i f = absurd i
count_less p (y ∷ ys) x (inl q) f =
    let e : count_by p (y ∷ ys) ≡ cond (p y) 1 0 + count_by p ys = sum_by-cons (λ z. cond (p z) 1 0) y ys in
    let z : ◌≡◌ {A = ℕ} (cond (p y) 1 0) 0 = ap (λ b. cond {A = ℕ} b 1 0) (ap p (sym q) ∙ f) in
    let r = count_at_most p ys in
    omega arith
count_less p (y ∷ ys) x (inr i) f =
    let e : count_by p (y ∷ ys) ≡ cond (p y) 1 0 + count_by p ys = sum_by-cons (λ z. cond (p z) 1 0) y ys in
    let r = count_less p ys x i f in
    go (p y) (cond (p y) 1 0) refl e r
  where
    go : (b : Bool) (n : ℕ) → cond {A = ℕ} b 1 0 ≡ n → count_by p (y ∷ ys) ≡ n + count_by p ys → count_by p ys < length ys
        → count_by p (y ∷ ys) < length (y ∷ ys)
    go true n z e r = let o : ◌≡◌ {A = ℕ} 1 n = z in omega arith
    go false n z e r = let o : ◌≡◌ {A = ℕ} 0 n = z in omega arith

count_more : {A : Type 0} (p : A → Bool) (xs : List A) (x : A) → IsElement x xs → p x ≡ true → 0 < count_by p xs
count_more p [] x i t = absurd i
count_more p (y ∷ ys) x (inl q) t =
    let e : count_by p (y ∷ ys) ≡ cond (p y) 1 0 + count_by p ys = sum_by-cons (λ z. cond (p z) 1 0) y ys in
    let z : ◌≡◌ {A = ℕ} (cond (p y) 1 0) 1 = ap (λ b. cond {A = ℕ} b 1 0) (ap p (sym q) ∙ t) in
    omega arith
count_more p (y ∷ ys) x (inr i) t =
    let e : count_by p (y ∷ ys) ≡ cond (p y) 1 0 + count_by p ys = sum_by-cons (λ z. cond (p z) 1 0) y ys in
    let r = count_more p ys x i t in
    omega arith

not_zero : (n : ℕ) → 0 < n → (n == 0) ≡ false
not_zero n l = not-true (n == 0) (λ e. let z : n ≡ 0 = eqb-true n 0 e in omega arith)

settled-more : (k h : List Entry) (s : Settlement) → Begins k h → settled k ≡ Some s → settled h ≡ Some s
settled-more k h s b e = ap settled b.1 ∙ first_given_answer-front (λ e. settling (accepted e)) k b.0 s e

module _ (d : Deal) (v i c : ℕ) (at : ℕ → ℕ) (k b : Histories) (key : Hashkey) (legal : IsLegalBook d b) (conducted : IsConducted d b v)
    (below : i < length d.leaders) (grows : Begins (history k c) (history b c)) (on : IsElement c (entering d.graph v))
    (missed : takes d at k i (Some key) c ≡ false) (late : LandsLate k b v i c key (at c)) where
  shut : is_open (history k c) i ≡ false
  shut = not-true (is_open (history k c) i) (λ e. false≢true (sym missed ∙ ap (λ x. x || accepts d at k (Some key) c) e))

  refused : accepts d at k (Some key) c ≡ false
  refused = ap (λ x. x || accepts d at k (Some key) c) (sym shut) ∙ missed

  never_open : (o : Option Opening) → opened (history b c) i ≡ o → is_some o ≡ true → ⊥
  unfolding keeps
  never_open None e t = false≢true t
  never_open (Some o) e t =
      let in_arc = enters d v c on in
      let u = opened_done d c (history b c) i o (legal_at d b v conducted legal c in_arc.0) e in
      let of_u = of_unlock d c u.0.past u.0.act.by o.key u.0.clear in
      let called = pick_call-act d c u.0.past u.0.now (Unlock o.key) v u.0.act (of_u.counterparty ∙ in_arc.1) in
      let r =
      and_five (is_some (published u.0.past)) (is_ready d b v) (is_first_key (first_key b v o.key.lock) o.key)
      (is_valid d c (lock_hashlock d o.key.lock) o.key) _ (kept d b v conducted c u.0.past u.0.now (Unlock o.key) u.0.stands called) in
      let right : is_correct d b c ≡ true = (and_parts (is_correct d b c) _ (ready_good d b v c r.1 on)).0 in
      let terms : of_u.contract.terms ≡ stated_terms d c =
      correct_past d b c u.0.past u.0.now of_u.contract (correct d b c right) u.0.stands of_u.published in
      let l = late u.0.past u.0.now o.key u.0.stands called u.1 in
      let low : height u.0.past ≤ last_unlock d.mode (stated_terms d c) key =
      subst (λ z. height u.0.past ≤ last_unlock d.mode (stated_terms d c) z) l.0
      (subst (λ z. height u.0.past ≤ last_unlock d.mode z o.key) terms of_u.in_time) in
      let height_is : u.0.now.height ≡ height u.0.past = u.0.act.at in
      by u.0.past u.0.now (λ m. subst (λ j. is_open (history k c) j ≡ true) u.1 (opened-now (history k c) u.0.past u.0.now o.key m u.0.took))
      of_u.unsettled (λ h. le-leb (at c) (last_unlock d.mode (stated_terms d c) key) (omega arith)) l.1
      (split (history k c) grows.0 u.0.past u.0.now u.0.stands.0 (sym grows.1 ∙ u.0.stands.1))
    where
      by : (past : List Entry) (e : Entry) → (IsMoment (history k c) past e → is_open (history k c) i ≡ true) → settled past ≡ None
          → (at c ≤ e.height → nat_le (at c) (last_unlock d.mode (stated_terms d c) key) ≡ true)
          → IsMoment (history k c) past e ⊎ (at c ≤ e.height) → IsMoment (history k c) past e ⊎ Begins (history k c) past → ⊥
      by past e shown none low (inl m) s = false≢true (sym shut ∙ shown m)
      by past e shown none low l (inl m) = false≢true (sym shut ∙ shown m)
      by past e shown none low (inr h) (inr later) = go (settled (history k c)) refl
        where
          go : (s : Option Settlement) → settled (history k c) ≡ s → ⊥
          go None q =
              false≢true (sym refused ∙ (ap (λ z. is_none z && nat_le (at c) (last_unlock d.mode (stated_terms d c) key)) q ∙ low h))
          go (Some s) q = cc (sym none ∙ settled-more (history k c) past s later q)

  pub untriggered : is_triggered d b c ≡ false
  untriggered =
      not-true (is_triggered d b c) (λ t.
      never_open (opened (history b c) i) refl (list_all-in (is_open (history b c)) (locks d) i t (in_range i (length d.leaders) below)))

  unpaid : is_got d b c ≡ false
  unpaid = not-true (is_got d b c) (λ g. go (settled (history b c)) refl (and_parts (is_correct d b c) (is_claim (settled (history b c))) g).1)
    where
      go : (s : Option Settlement) → settled (history b c) ≡ s → is_claim (settled (history b c)) ≡ true → ⊥
      go None q e = false≢true (sym (ap is_claim q) ∙ e)
      go (Some Refunded) q e = false≢true (sym (ap is_claim q) ∙ e)
      go (Some Claimed) q e =
          let r = (claimed_done d c (history b c) (legal_at d b v conducted legal c (enters d v c on).0) q).1 in
          let p = of_claim d c r.past r.act.by r.clear in
          false≢true (sym untriggered ∙ triggered-past d (history b c) r.past r.now r.stands p.triggered)

  pub sinks : HasLost d b v → outcome d b v ≡ Underwater
  unfolding outcome
  sinks stake =
      let y = in_any (is_triggered d b) (leaving d.graph v) stake in
      let some : (lost d b v == 0) ≡ false = not_zero (lost d b v) (count_more (is_triggered d b) (leaving d.graph v) y.0 y.1 y.2) in
      let few : nat_lt (got d b v) (length (entering d.graph v)) ≡ true =
      lt-ltb (got d b v) (length (entering d.graph v)) (count_less (is_got d b) (entering d.graph v) c on unpaid) in
      rw (some, few) refl

pub missed_is_never_paid : MissedIsNeverPaid
missed_is_never_paid d v i c at k b key legal conducted below grows on missed late =
    (untriggered d v i c at k b key legal conducted below grows on missed late, sinks d v i c at k b key legal conducted below grows on missed late)

-- Who has lost.

passing_of : (d : Deal) (b : Histories) (v : ℕ) → TimeLaw d → IsLegalBook d b → IsConducted d b v → IsUnforged d b v → Passing d b v
passing_of d b v (OfTimelocks law) legal conducted unforged = passing_timelocks d b v legal conducted law unforged
passing_of d b v (OfHashkeys law) legal conducted unforged = passing_hashkeys d b v legal conducted law unforged

pub lost_is_enabled : LostIsEnabled
lost_is_enabled d v b acc legal conducted unforged stake =
    let p = passing_of d b v (time_law d acc) legal conducted unforged in
    let y = in_any (is_triggered d b) (leaving d.graph v) stake in
    let ready = p.ready y.0 y.1 y.2 in (
      ready,
      λ i a below on.
          let known = p.known y.0 i y.1 (list_all-in (is_open (history b y.0)) (locks d) i y.2 (in_range i (length d.leaders) below)) in
          let due = p.due ready a i on below known in
          (due.ref, due.enabled),
    )
