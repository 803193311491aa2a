-- A wallet that presents all that is due is never late at all.
use Rattle.std.proofs.Common.{◌≡◌, ◌⊎◌, ℕ, ◌+◌, ◌<◌, ◌≤◌, ◌==◌, nat_le, Bool, true, false, cond, not, if◌then◌else◌, ◌&&◌, ◌||◌}
use Rattle.std.proofs.Common.{List, [], ◌∷◌, ◌++◌, length, Option, Some, is_some, refl, sym, ap, ◌∙◌, inl, inr, arith}
use Rattle.std.proofs.Common.{eqb-true, leb-true}
use Rattle.std.proofs.Common.{count_by, map}
use Rattle.swap_base.specs.Lists.{IsElement}
use Rattle.swap_base.proofs.Lists.{any_at, and_parts, and_both}
use Rattle.swap_base.proofs.Lists.{in_append, from_append, from_range}
use Rattle.swap_digraph.specs.declared.deal.Deal.{Deal}
use Rattle.swap_digraph.specs.Graph.{leaving, entering, is_listed}
use Rattle.swap_digraph.specs.Deal.{locks}
use Rattle.swap_digraph.proofs.Paths.{is_listed-true, in-is_listed}
use Rattle.hashkey_path.specs.declared.hashkey.Hashkey.{Hashkey}
use Rattle.escrow_core.specs.Terms.{same_terms, stated_terms}
use Rattle.ledger_core.specs.declared.entry.Call.TheVariants.{Publish, Claim, Refund}
use Rattle.ledger_core.specs.History.{height, published, Publication, is_open}
use Rattle.ledger_core.specs.Book.{Histories, history, IsLegalBook}
use Rattle.ledger_core.proofs.History.{Done, published_done, of_publish, height-past}
use Rattle.ledger_core.proofs.History.{is_some-of, not-true-of}
use Rattle.time_bounds.specs.Times as times
use Rattle.swap_rules.specs.declared.finding.Rule.TheVariants.{Publish as RulePublish, Unlock as RuleUnlock, Claim as RuleClaim, Refund as RuleRefund}
use Rattle.swap_rules.specs.Findings.{deal_rules}
use Rattle.swap_rules.specs.Accepted.{IsAccepted}
use Rattle.swap_rules.specs.Party.{leads_one, is_ready, ready_height, is_triggered, least_expiry, pick_call}
use Rattle.swap_rules.specs.Conduct.{is_publish, keeps, IsConducted}
use Rattle.swap_rules.specs.Late.{when, reference_height, counts}
use Rattle.swap_rules.specs.Due.{due as all_due, Wallet, is_due_claim, is_due_refund}
use Rattle.swap_rules.specs.Machine.{IsWallet}
use Rattle.swap_rules.specs.Rounds.{IsNear, IsDoneInTime}
use Rattle.swap_rules.specs.Laws.{IsOnTime}
use Rattle.swap_rules.proofs.Accepted.{times_law}
use Rattle.swap_rules.proofs.Calls.{some_call, kept}
use Rattle.swap_rules.proofs.Entering.{ready_below}
use Rattle.swap_rules.proofs.Openings.{first_expiry}
use Rattle.swap_rules.proofs.Refunds.{counted_publish, count_one}
use Rattle.swap_rules.proofs.Leaving.{enabled_parts}
use Rattle.swap_rules.proofs.Rounds.{done_not_late}
use Rattle.swap_rules.proofs.Words.{and_three, pick_call-act, leaves}
use Rattle.wallet_promise.specs.Life.{Asking, IsLife}
use Rattle.wallet_promise.proofs.Living.{life_conducts}
use Rattle.clock_promise.specs.Polls.{RunTogether, Clocks, IsQuick, IsPoll, IsPolled}
use Rattle.clock_promise.specs.Laws.{what_is_due, DueIsOnTime}
use Rattle.clock_promise.proofs.Quick.{sooner, short, Found, Low, find, unlock_found, refund_in_time, claims_prompt}
use Rattle.clock_promise.proofs.Acts.{Landed, when_some, publish_by, Refunding, refund_counts, publish_is_due, claim_is_due, refund_is_due, unlock_is_due}
use Rattle.clock_promise.proofs.Reach.{Reached, IsLow, climb}

from_map : {A B : Type 0} (f : A → B) (xs : List A) (y : B) → IsElement y (map f xs) → (x : A) × IsElement x xs × (y ≡ f x)
from_map f [] y i = absurd i
from_map f (x ∷ xs) y (inl e) = (x, inl refl, e)
from_map f (x ∷ xs) y (inr i) = let r = from_map f xs y i in (r.0, inr r.1, r.2)

lock_of_rule : (d : Deal) (l : ℕ) → IsElement (RuleUnlock l) (deal_rules d) → l < length d.leaders
lock_of_rule d l (inl e) = absurd (cc e)
lock_of_rule d l (inr i) = elim (from_append (map RuleUnlock (locks d)) (RuleClaim ∷ RuleRefund ∷ []) (RuleUnlock l) i) [
  | inl j ↦ (let r = from_map RuleUnlock (locks d) (RuleUnlock l) j in let same : l ≡ r.0 = lock_is l r.0 r.2 in
      let h = from_range r.0 (length d.leaders) r.1 in omega arith)
  | inr j ↦ absurd (other j)
]
  where
    lock_is : (x y : ℕ) → RuleUnlock x ≡ RuleUnlock y → x ≡ y
    lock_is x y e = cc

    other : IsElement (RuleUnlock l) (RuleClaim ∷ RuleRefund ∷ []) → ⊥
    other (inl e) = cc e
    other (inr (inl e)) = cc e
    other (inr (inr e)) = e

module _ (d : Deal) (v : ℕ) (w : Wallet) (b : Histories) (askings : List Asking) (kept_keys : ℕ → Option Hashkey) (acc : IsAccepted d) (legal : IsLegalBook d b)
    (wallet : IsWallet d v w) (life : IsLife d v w b askings kept_keys) (c : Clocks) (polls : ℕ) (at : ℕ → ℕ → ℕ) (quick : IsQuick d c)
    (together : RunTogether d v c polls at) (x : IsPolled d v b askings (what_is_due d v w) c polls at) where
  claims : (by : ℕ → ℕ) (kept : ℕ → Option Hashkey) (k : Histories) (a : ℕ) → IsElement a (entering d.graph v) → is_due_claim d v k a ≡ true
      → IsElement (record { arc = a; call = Claim }) (what_is_due d v w by kept k)
  claims by kept k a en t = claim_is_due d v w kept k a en t

  refunds : (by : ℕ → ℕ) (kept : ℕ → Option Hashkey) (k : Histories) (a : ℕ) → IsElement a (leaving d.graph v) → is_due_refund d v k a ≡ true
      → IsElement (record { arc = a; call = Refund }) (what_is_due d v w by kept k)
  refunds by kept k a out t = refund_is_due d v w kept k a out t

  room : c.skew + c.finality + (c.pace + c.down) + c.landing ≤ d.delta
  room = quick

  conduct : IsConducted d b v
  conduct = life_conducts d v w b askings kept_keys acc legal wallet life

  abbrev all_near : List ℕ
  all_near = leaving d.graph v ++ entering d.graph v

  near_of : (a : ℕ) → IsElement a all_near → IsNear d v a
  near_of a i = from_append (leaving d.graph v) (entering d.graph v) a i

  abbrev Here : ℕ → Type 0
  Here ref = Reached d v b askings (what_is_due d v w) c polls at all_near (IsNear d v) ref

  abbrev Nowhere : ℕ → Type 0
  Nowhere ref = IsLow d v b askings (what_is_due d v w) c polls at all_near (IsNear d v) ref polls

  find_one : (ref : ℕ) → Here ref ⊎ Nowhere ref
  find_one ref =
      climb d v b askings (what_is_due d v w) c polls at all_near (IsNear d v) (λ a i. i) near_of (λ r a e l i j. together r a e l i (near_of e j)) x ref polls
      (omega arith)

  out_of : (a ref : ℕ) → reference_height d b v RulePublish a ≡ Some ref → IsElement a (leaving d.graph v)
  unfolding reference_height
  out_of a ref e =
      let s = when_some (is_listed a (leaving d.graph v) && (leads_one d v || is_ready d b v)) (if leads_one d v then 0 else ready_height d b v) ref e in
      is_listed-true a (leaving d.graph v) (and_parts (is_listed a (leaving d.graph v)) (leads_one d v || is_ready d b v) s.0).0

  publish_in_time : (a ref : ℕ) → reference_height d b v RulePublish a ≡ Some ref → IsDoneInTime d b v RulePublish a (ref + d.delta)
  publish_in_time a ref e = go (out_of a ref e) (find_one ref)
    where
      go : IsElement a (leaving d.graph v) → Here ref ⊎ Nowhere ref → IsDoneInTime d b v RulePublish a (ref + d.delta)
      go out (inl y) =
          let p = x.poll y.r y.inside in
          publish_by d v w b askings kept_keys acc legal wallet life p.asking p.asked ref (ref + d.delta)
          (λ a n. let h : at y.r a ≤ height (history p.asking.known a) + c.finality = p.fresh a n in
          let s : ref + c.finality < at y.r a = y.past a (in_append (leaving d.graph v) (entering d.graph v) a n) in omega arith) a
          (let n : height (history p.asking.known a) ≤ at y.r a = p.no_further a (inl out) in
          let u : at y.r a ≤ ref + (c.skew + c.finality + (c.pace + c.down)) = y.soon a (inl out) in
          let f = room in omega arith) (λ t. lands y.r y.inside out (y.soon a (inl out)) (publish_is_due d v w p.asking.kept p.asking.known a out t)) e
        where
          lands : (r : ℕ) (l : r < polls) → IsElement a (leaving d.graph v) → at r a ≤ ref + (c.skew + c.finality + (c.pace + c.down))
              → IsElement (record { arc = a; call = Publish (stated_terms d a) })
              (all_due d v w (IsPoll.asking (x.poll r l)).kept (IsPoll.asking (x.poll r l)).known)
              → Landed b v (record { arc = a; call = Publish (stated_terms d a) }) (ref + d.delta) ⊎ (height (history b a) ≤ ref + d.delta)
          lands r l out soon i =
              sooner b v (record { arc = a; call = Publish (stated_terms d a) }) (at r a + c.landing) (ref + d.delta)
              (let f = room in omega arith) (IsPoll.lands (x.poll r l) (record { arc = a; call = Publish (stated_terms d a) }) i)
      go out (inr low) =
          inr (let h : height (history b a) ≤ at polls a = x.ends a (inl out) in
          let u : at polls a ≤ ref + (c.skew + c.finality + (c.pace + c.down)) = low a (inl out) in let f = room in omega arith)

  -- what v published was published before any lock expires
  published_early : (a : ℕ) (p : Publication) → IsElement a (leaving d.graph v) → published (history b a) ≡ Some p
      → p.height ≤ times.opening_deadline d.start d.delta d.bound + d.delta
  unfolding keeps reference_height
  published_early a p out e =
      let l = (leaves d v a out).0 in
      let done = published_done d a (history b a) p (legal.legal a (rw legal.one_each l)) e in
      let by : done.act.by ≡ v = (of_publish d a done.past done.act.by p.terms done.clear).party ∙ (leaves d v a out).1 in
      let called = pick_call-act d a done.past done.now (Publish p.terms) v done.act by in
      let k =
      and_three (same_terms p.terms (stated_terms d a)) (count_by (λ e. is_publish (pick_call v e)) (history b a) == 1) (leads_one d v || is_ready d b v)
      (kept d b v conduct a done.past done.now (Publish p.terms) done.stands called) in
      let r = publish_ref k.2 (leads_one d v) refl in
      go done called (eqb-true _ _ k.1) r.0 r.2 (publish_in_time a r.0 r.1)
    where
      on : (leads_one d v || is_ready d b v) ≡ true → (is_listed a (leaving d.graph v) && (leads_one d v || is_ready d b v)) ≡ true
      on may = and_both (is_listed a (leaving d.graph v)) _ (in-is_listed a (leaving d.graph v) out) may

      is_at : (leads_one d v || is_ready d b v) ≡ true → (r : ℕ) → cond (leads_one d v) 0 (ready_height d b v) ≡ r
          → reference_height d b v RulePublish a ≡ Some r
      is_at may r q = ap (λ x. when x (cond (leads_one d v) 0 (ready_height d b v))) (on may) ∙ ap Some q

      publish_ref : (leads_one d v || is_ready d b v) ≡ true → (z : Bool) → leads_one d v ≡ z
          → (r : ℕ) × (reference_height d b v RulePublish a ≡ Some r) × (r ≤ times.opening_deadline d.start d.delta d.bound)
      publish_ref may true f = (0, is_at may 0 (ap (λ x. cond x 0 (ready_height d b v)) f), omega arith)
      publish_ref may false f = (
        ready_height d b v,
        is_at may (ready_height d b v) (ap (λ x. cond x 0 (ready_height d b v)) f),
        ready_below d b v legal conduct (times_law d acc) (ap (λ x. x || is_ready d b v) (sym f) ∙ may),
      )

      go : (done : Done d a (history b a) (Publish p.terms) p.height) → pick_call v done.now ≡ Some (Publish p.terms)
          → count_by (λ e. is_publish (pick_call v e)) (history b a) ≡ 1 → (r : ℕ) → r ≤ times.opening_deadline d.start d.delta d.bound
          → IsDoneInTime d b v RulePublish a (r + d.delta) → p.height ≤ times.opening_deadline d.start d.delta d.bound + d.delta
      go done called one r low (inl h) =
          let f = any_at (λ e. counts d b v RulePublish a e.height (pick_call v e) && nat_le e.height (r + d.delta)) (history b a) h in
          let q = and_parts (counts d b v RulePublish a f.now.height (pick_call v f.now)) (nat_le f.now.height (r + d.delta)) f.passes in
          let s = some_call d b v conduct legal RulePublish a f.now.height (pick_call v f.now) q.0 in
          let t = counted_publish d b v a f.now.height s.0 (ap (counts d b v RulePublish a f.now.height) (sym s.1) ∙ q.0) in
          let same =
          count_one (λ e. is_publish (pick_call v e)) (history b a) done.past f.past done.now f.now one done.stands f.stands (ap is_publish called)
          (ap is_publish (s.1 ∙ ap Some t.1)) in
          let e1 : p.height ≡ height done.past = done.at in
          let e2 : done.now.height ≡ height done.past = done.act.at in
          let e3 : done.now.height ≡ f.now.height = ap (λ z. z.height) same.1 in
          let e4 = leb-true f.now.height (r + d.delta) q.1 in
          omega arith
      go done called one r low (inr h) =
          let e1 : p.height ≡ height done.past = done.at in
          let e2 = height-past (history b a) done.past done.now done.stands in
          omega arith

  refund_done_in_time : (a ref : ℕ) → reference_height d b v RuleRefund a ≡ Some ref → IsDoneInTime d b v RuleRefund a (ref + d.delta)
  unfolding reference_height
  refund_done_in_time a ref e =
      let s =
      when_some (is_listed a (leaving d.graph v) && is_some (published (history b a)) && not (is_triggered d b a)) (least_expiry d a (history b a)) ref e in
      let p = and_three (is_listed a (leaving d.graph v)) (is_some (published (history b a))) (not (is_triggered d b a)) s.0 in
      let out = is_listed-true a (leaving d.graph v) p.0 in
      let shut = not-true-of _ p.2 in
      let q = is_some-of (published (history b a)) p.1 in
      let first = first_expiry d a (stated_terms d a) (is_open (history b a)) shut in
      let t1 = (times_law d acc).opens a first.lock (leaves d v a out).0 in
      let t2 = first.height in
      let t3 = published_early a q.0 out q.1 in
      let same : least_expiry d a (history b a) ≡ ref = s.1 in
      go out
      (refund_in_time d v w b askings kept_keys acc legal wallet life c polls at quick (what_is_due d v w) x claims refunds a ref q.0 out q.1 (omega arith) shut (omega arith))
    where
      go : IsElement a (leaving d.graph v)
          → Refunding d v w b askings kept_keys acc legal wallet life a (ref + d.delta) ⊎ (height (history b a) ≤ ref + d.delta)
          → IsDoneInTime d b v RuleRefund a (ref + d.delta)
      go out (inl y) = inl (refund_counts d v w b askings kept_keys acc legal wallet life a (ref + d.delta) y.past y.now out y.stands y.called y.low)
      go out (inr h) = inr h

  abbrev Met : ℕ → Type 0
  Met ref = Found d v w b askings kept_keys acc legal wallet life c polls at quick (what_is_due d v w) x claims refunds ref

  abbrev Late : ℕ → Type 0
  Late ref = Low d v w b askings kept_keys acc legal wallet life c polls at quick (what_is_due d v w) x claims refunds ref

  unlock_in_time : (i a ref : ℕ) → i < length d.leaders → reference_height d b v (RuleUnlock i) a ≡ Some ref
      → IsDoneInTime d b v (RuleUnlock i) a (ref + d.delta)
  unlock_in_time i a ref below e =
      go (enabled_parts d b v i a ref e).enters (find d v w b askings kept_keys acc legal wallet life c polls at quick (what_is_due d v w) x claims refunds ref)
    where
      go : IsElement a (entering d.graph v) → Met ref ⊎ Late ref → IsDoneInTime d b v (RuleUnlock i) a (ref + d.delta)
      go en (inl y) =
          let p = x.poll y.r y.inside in
          unlock_found d v w b askings kept_keys acc legal wallet life c polls at quick (what_is_due d v w) x claims refunds i a ref below en y
          (λ key may due. unlock_is_due d v w p.asking.kept p.asking.known i a key below en may due) e
      go en (inr low) =
          inr (short d v w b askings kept_keys acc legal wallet life c polls at quick (what_is_due d v w) x claims refunds ref a (inr en) (low a en))

  on_time : IsOnTime d b v
  on_time RulePublish a i j = done_not_late d b v d.delta (omega arith) RulePublish a (λ ref e. publish_in_time a ref e)
  on_time (RuleUnlock l) a i j =
      done_not_late d b v d.delta (omega arith) (RuleUnlock l) a (λ ref e. unlock_in_time l a ref (lock_of_rule d l i) e)
  on_time RuleClaim a i j = claims_prompt d v w b askings kept_keys acc legal wallet life c polls at quick (what_is_due d v w) x claims refunds a
  on_time RuleRefund a i j = done_not_late d b v d.delta (omega arith) RuleRefund a (λ ref e. refund_done_in_time a ref e)

pub due_is_on_time : DueIsOnTime
due_is_on_time d v w b askings kept acc legal wallet life c polls at quick together x =
    on_time d v w b askings kept acc legal wallet life c polls at quick together x
