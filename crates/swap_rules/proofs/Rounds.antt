-- In rounds each enabled action is done within a round and its slack.
use Rattle.std.proofs.Common.{le-leb, count_by, ◌≡◌, ◌⊎◌, ℕ, suc, zero, ◌+◌, ◌<◌, ◌≤◌, ◌==◌, nat_lt, nat_le, Bool, true, false, cond, not, ◌-◌}
use Rattle.std.proofs.Common.{if◌then◌else◌, max, ◌&&◌, ◌||◌, List, [], ◌∷◌, ◌++◌, length, Option, Some, None, is_some, is_none, refl, sym, ap, ◌∙◌}
use Rattle.std.proofs.Common.{subst, inl, inr, arith, eqb-true, ltb-true, ltb-false, lt-ltb, le-ltb, leb-true, mul-le-mul_right, ◌*◌, map}
use Rattle.std.specs.List.{list_any, flat_map}
use Rattle.std.proofs.lemmas.Bool.{false≢true}
use Rattle.std.proofs.lemmas.Option.{same_Some}
use Rattle.swap_base.specs.Lists.{or_else, IsElement, IsMoment, greatest}
use Rattle.swap_base.proofs.Lists.{first_at, first_given_answer-now, first_given_answer-in, all_moments_front, Order, moments_in_order, Earlier, Same, Later, AnyAt, any_at}
use Rattle.swap_base.proofs.Lists.{list_all-in, list_all-from, list_any-in, or-right, in_range, from_range, and_parts, and_both, greatest-in}
use Rattle.swap_base.proofs.Lists.{greatest-below, in_from_moment, moment_from_in, from_append, from_whole, bool_or}
use Rattle.swap_digraph.specs.declared.deal.Mode.{Mode}
use Rattle.swap_digraph.specs.declared.deal.Mode.TheVariants.{Timelocks, Hashkeys}
use Rattle.swap_digraph.specs.declared.deal.Deal.{Deal}
use Rattle.swap_digraph.specs.Graph.{arcs, leaving, entering, is_listed}
use Rattle.swap_digraph.specs.Deal.{locks, leads, lock_hashlock}
use Rattle.hashkey_path.specs.declared.hashkey.Hashkey.{Hashkey}
use Rattle.hashkey_path.specs.Hashkey.{same_key, is_valid}
use Rattle.escrow_core.specs.declared.terms.Terms.{Terms}
use Rattle.escrow_core.specs.Terms.{stated_terms, same_terms}
use Rattle.ledger_core.specs.declared.entry.Call.{Call}
use Rattle.ledger_core.specs.declared.entry.Call.TheVariants.{Publish, Unlock, Claim, Refund, Transfer}
use Rattle.ledger_core.specs.declared.entry.Entry.{Entry}
use Rattle.ledger_core.specs.History.{height, accepted, Publication, publication, published, Opening, opened, settled, is_open, triggered, IsLegal}
use Rattle.ledger_core.specs.History.{IsLegalMoment}
use Rattle.ledger_core.specs.declared.facts.Settlement.{Settlement}
use Rattle.ledger_core.specs.declared.facts.Settlement.TheVariants.{Claimed, Refunded}
use Rattle.ledger_core.specs.Book.{Histories, history, IsLegalBook}
use Rattle.swap_rules.specs.Party.{has_expired, least_expiry, is_arc_correct, is_correct, publication_height, is_good, is_ready, ready_height, is_triggered}
use Rattle.swap_rules.specs.Party.{leads_one, pick_call, unlock_hashkey, first_key, first_seen_key, key_without_party, opens_without_party}
use Rattle.swap_rules.specs.Conduct.{is_publish, is_first_key, has_origin, carries, keeps, IsConducted, extends, extends_without_party, is_alone}
use Rattle.swap_rules.specs.Late.{is_carried, is_used, greatest_used, height_of_opening, unlock_base, trigger_height, when, reference_height, counts, is_done}
use Rattle.swap_rules.specs.Late.{is_late, is_past_due}
use Rattle.swap_rules.specs.declared.finding.Rule.{Rule}
use Rattle.swap_rules.specs.declared.finding.Rule.TheVariants.{Publish as ToPublish, Unlock as ToUnlock, Claim as ToClaim, Refund as ToRefund}
use Rattle.swap_rules.specs.Findings.{deal_rules}
use Rattle.swap_rules.specs.Accepted.{IsAccepted, IsTimed}
use Rattle.swap_rules.specs.Due.{Wallet, unlocks_lock, is_claiming, is_refunding, has_called, is_due_publish, seen_key, extended, due_key, presented}
use Rattle.swap_rules.specs.Due.{may_unlock, due_arc_unlock, is_due_claim, is_due_refund, when_due, due_publishes, due_unlocks, due_claims, due_refunds}
use Rattle.swap_rules.specs.Due.{due}
use Rattle.swap_digraph.proofs.Paths.{is_listed-true}
use Rattle.swap_rules.proofs.Words.{past_end, key_without_parts, and_three, and_five, enters, leaves, pick_call-act, act_of, key_parts}
use Rattle.swap_rules.proofs.Words.{append_empty, flat_map_none, or-left, same_key-refl}
use Rattle.swap_rules.proofs.Times.{no_path}
use Rattle.swap_rules.proofs.Openings.{first_expiry, has_expired-lock, expired-least}
use Rattle.swap_rules.proofs.Expiry.{still_expired}
use Rattle.swap_rules.proofs.Calls.{correct, own_publish, OwnPublish, kept}
use Rattle.swap_rules.proofs.SafeHashkeys.{longer, Extended, extended_without, used_in}
use Rattle.swap_rules.proofs.Growth.{is_open-more, Grows, opened-more, triggered-more, ready_good, same_published}
use Rattle.swap_rules.proofs.Accepted.{times_law}
use Rattle.ledger_core.proofs.History.{Done, done_at, published_done, opened_done, claimed_done, refunded_done, of_publish, of_unlock, of_claim}
use Rattle.ledger_core.proofs.History.{of_refund, clear_at, height-past, published-past, opened-now, triggered-past, is_some-of, not-true, not-true-of}
use Rattle.ledger_core.proofs.History.{lock-below}
use Rattle.swap_rules.proofs.Refunds.{count_one}
use Rattle.swap_rules.proofs.Prefixes.{begins_refl, begins_more, moment_more, begins_height, in_front, in_any}
use Rattle.swap_rules.specs.Laws.{RoundsAreInTime, RoundsAreOnTime, RacesAreInTime}
use Rattle.swap_rules.specs.Machine.{Begins}
use Rattle.swap_rules.specs.Rounds.{IsNear, IsRounds, IsDoneInTime, IsRaceTurn, AreRaceBooks, round_book}
use Rattle.time_bounds.specs.Times as times
use Rattle.swap_rules.proofs.Forging.{revealed}

-- Where nothing is due.

when_due_none : (test : Bool) (a : ℕ) (c : Call) → when_due test a c ≡ [] → test ≡ false
when_due_none true a c e = absurd (cc e)
when_due_none false a c e = refl

present_none : (test : Bool) (a : ℕ) (o : Option Hashkey) → cond test (presented a o) [] ≡ [] → test ≡ true → o ≡ None
present_none true a None e t = refl
present_none true a (Some key) e t = absurd (cc e)
present_none false a o e t = absurd (false≢true t)

-- Nothing is due but perhaps publishes, and unlocks for locks that are held back.
pub record NothingElseDue (d : Deal) (v : ℕ) (signed : ℕ → Option Hashkey) (w : Wallet) (k : Histories) (held : ℕ → Bool) : Type 0 where
  pub unlock : (i a : ℕ) → i < length d.leaders → IsElement a (entering d.graph v) → may_unlock d v k i a ≡ true → held i ≡ false
      → due_key d v w (signed i) k i ≡ None
  pub claim : (a : ℕ) → IsElement a (entering d.graph v) → is_due_claim d v k a ≡ false
  pub refund : (a : ℕ) → IsElement a (leaving d.graph v) → is_due_refund d v k a ≡ false

pub record NothingDue (d : Deal) (v : ℕ) (signed : ℕ → Option Hashkey) (w : Wallet) (k : Histories) : Type 0 where
  pub publish : (a : ℕ) → IsElement a (leaving d.graph v) → is_due_publish d v k a ≡ false
  pub unlock : (i a : ℕ) → i < length d.leaders → IsElement a (entering d.graph v) → may_unlock d v k i a ≡ true → due_key d v w (signed i) k i ≡ None
  pub claim : (a : ℕ) → IsElement a (entering d.graph v) → is_due_claim d v k a ≡ false
  pub refund : (a : ℕ) → IsElement a (leaving d.graph v) → is_due_refund d v k a ≡ false

unlock_none : (d : Deal) (v : ℕ) (w : Wallet) (signed : ℕ → Option Hashkey) (k : Histories) (i a : ℕ)
    → flat_map (due_arc_unlock d v w (signed i) k i) (entering d.graph v) ≡ [] → IsElement a (entering d.graph v) → may_unlock d v k i a ≡ true
    → due_key d v w (signed i) k i ≡ None
unfolding due_arc_unlock
unlock_none d v w signed k i a e j t =
    present_none (may_unlock d v k i a) a (due_key d v w (signed i) k i)
    (flat_map_none (due_arc_unlock d v w (signed i) k i) (entering d.graph v) a e j) t

claim_none : (d : Deal) (v : ℕ) (k : Histories) → due_claims d v k ≡ [] → (a : ℕ) → IsElement a (entering d.graph v) → is_due_claim d v k a ≡ false
claim_none d v k c a i =
    when_due_none (is_due_claim d v k a) a Claim (flat_map_none (λ a. when_due (is_due_claim d v k a) a Claim) (entering d.graph v) a c i)

pub refund_none : (d : Deal) (v : ℕ) (k : Histories) → due_refunds d v k ≡ [] → (a : ℕ) → IsElement a (leaving d.graph v) → is_due_refund d v k a ≡ false
refund_none d v k r a i =
    when_due_none (is_due_refund d v k a) a Refund (flat_map_none (λ a. when_due (is_due_refund d v k a) a Refund) (leaving d.graph v) a r i)

pub nothing_due : (d : Deal) (v : ℕ) (w : Wallet) (signed : ℕ → Option Hashkey) (k : Histories) → due d v w signed k ≡ [] → NothingDue d v signed w k
unfolding due
nothing_due d v w signed k e =
    let e1 = append_empty (due_publishes d v k ++ due_unlocks d v w signed k ++ due_claims d v k) (due_refunds d v k) e in
    let e2 = append_empty (due_publishes d v k ++ due_unlocks d v w signed k) (due_claims d v k) e1.0 in
    let e3 = append_empty (due_publishes d v k) (due_unlocks d v w signed k) e2.0 in
    record {
      publish =
          λ a i. when_due_none (is_due_publish d v k a) a (Publish (stated_terms d a))
          (flat_map_none (λ a. when_due (is_due_publish d v k a) a (Publish (stated_terms d a))) (leaving d.graph v) a e3.0 i);
      unlock = λ i a l j t. unlock_none d v w signed k i a
          (flat_map_none (λ i. flat_map (due_arc_unlock d v w (signed i) k i) (entering d.graph v)) (locks d) i e3.1 (in_range i (length d.leaders) l)) j t;
      claim = claim_none d v k e2.1;
      refund = refund_none d v k e1.1;
    }

and_false : (z : Bool) → (z && false) ≡ false
and_false true = refl
and_false false = refl

-- Numbers.

pub next_round : (ticks : ℕ) → 1 ≤ ticks → (ref : ℕ) → (q : ℕ) × (ref < q * ticks) × (q * ticks ≤ ref + ticks)
next_round ticks some zero = (1, omega arith, omega arith)
next_round ticks some (suc ref) =
    let r = next_round ticks some ref in
    go r.0 r.1 r.2 (nat_lt (suc ref) (r.0 * ticks)) refl
  where
    go : (q : ℕ) → ref < q * ticks → q * ticks ≤ ref + ticks → (x : Bool) → nat_lt (suc ref) (q * ticks) ≡ x
        → (q : ℕ) × (suc ref < q * ticks) × (q * ticks ≤ suc ref + ticks)
    go q low high true e = (q, ltb-true (suc ref) (q * ticks) e, omega arith)
    go q low high false e =
        let h : q * ticks ≤ suc ref = ltb-false (suc ref) (q * ticks) e in
        (suc q, omega arith, omega arith)

pub and_not : (x y : Bool) → (x && not y) ≡ false → x ≡ true → y ≡ true
and_not true true e h = refl
and_not true false e h = absurd (cc e)
and_not false y e h = absurd (false≢true h)

when_some : (t : Bool) (n r : ℕ) → when t n ≡ Some r → (t ≡ true) × (n ≡ r)
when_some true n r e = (refl, same_Some n r e)
when_some false n r e = absurd (cc e)

in_map : {A B : Type 0} (f : A → B) (xs : List A) (y : B) → IsElement y (map f xs) → (x : A) × IsElement x xs × (y ≡ f x)
in_map f [] y i = absurd i
in_map f (x ∷ xs) y (inl e) = (x, inl refl, e)
in_map f (x ∷ xs) y (inr i) = let r = in_map f xs y i in (r.0, inr r.1, r.2)

lock_of_rule : (d : Deal) (l : ℕ) → IsElement (ToUnlock l) (deal_rules d) → l < length d.leaders
lock_of_rule d l (inl e) = absurd (cc e)
lock_of_rule d l (inr i) = elim (from_append (map ToUnlock (locks d)) (ToClaim ∷ ToRefund ∷ []) (ToUnlock l) i) [
  | inl j ↦ (let r = in_map ToUnlock (locks d) (ToUnlock l) j in let same : l ≡ r.0 = lock_is l r.0 r.2 in
      let h = from_range r.0 (length d.leaders) r.1 in omega arith)
  | inr j ↦ absurd (other j)
]
  where
    lock_is : (x y : ℕ) → ToUnlock x ≡ ToUnlock y → x ≡ y
    lock_is x y e = cc

    other : IsElement (ToUnlock l) (ToClaim ∷ ToRefund ∷ []) → ⊥
    other (inl e) = cc e
    other (inr (inl e)) = cc e
    other (inr (inr e)) = e

-- What a test finds among v's calls.
pub record Called (v : ℕ) (h : List Entry) (test : Option Call → Bool) : Type 0 where
  pub past : List Entry
  pub now : Entry
  pub call : Call
  pub stands : IsMoment h past now
  pub called : pick_call v now ≡ Some call
  pub passes : test (Some call) ≡ true

pub called_at : (v : ℕ) (h : List Entry) (test : Option Call → Bool) → test None ≡ false → has_called v test h ≡ true → Called v h test
called_at v h test n e = let f = any_at (λ x. test (pick_call v x)) h e in go f (pick_call v f.now) refl
  where
    go : (f : AnyAt (λ x. test (pick_call v x)) h) → (o : Option Call) → pick_call v f.now ≡ o → Called v h test
    go f None q = absurd (false≢true (sym n ∙ (ap test (sym q) ∙ f.passes)))
    go f (Some c) q = record { past = f.past; now = f.now; call = c; stands = f.stands; called = q; passes = ap test (sym q) ∙ f.passes }

-- One book: its opening hashkeys.

pub opened_key : (d : Deal) (a : ℕ) (h : List Entry) (i t : ℕ) (key : Hashkey) (o : Opening) → IsLegal d a h → Done d a h (Unlock key) t → key.lock ≡ i
    → opened h i ≡ Some o → (o.key ≡ key) × (o.height ≡ t)
opened_key d a h i t key o l done e q =
    let u = opened_done d a h i o l q in
    let of_done = of_unlock d a done.past done.act.by key done.clear in
    let of_u = of_unlock d a u.0.past u.0.act.by o.key u.0.clear in
    go done u.0 of_done.closed of_u.closed (u.1 ∙ sym e) (moments_in_order h done.past u.0.past done.now u.0.now done.stands u.0.stands)
  where
    unlock_is : (x y : Hashkey) → Some (Unlock x) ≡ Some (Unlock y) → x ≡ y
    unlock_is x y e = cc

    go : (x : Done d a h (Unlock key) t) (y : Done d a h (Unlock o.key) o.height) → is_open x.past key.lock ≡ false → is_open y.past o.key.lock ≡ false
        → o.key.lock ≡ key.lock → Order x.past x.now y.past y.now → (o.key ≡ key) × (o.height ≡ t)
    go x y cx cy s (Same p n) = (unlock_is o.key key (sym y.took ∙ (ap accepted (sym n) ∙ x.took)), y.at ∙ (ap height (sym p) ∙ sym x.at))
    go x y cx cy s (Earlier m) = absurd (false≢true (sym cy ∙ (ap (is_open y.past) s ∙ opened-now y.past x.past x.now key m x.took)))
    go x y cx cy s (Later m) = absurd (false≢true (sym cx ∙ (ap (is_open x.past) (sym s) ∙ opened-now x.past y.past y.now o.key m y.took)))

legal_on : (d : Deal) (b : Histories) → IsLegalBook d b → (a : ℕ) → a < length d.graph.arcs → IsLegal d a (history b a)
legal_on d b legal a l = legal.legal a (rw legal.one_each l)

-- What a party sees that was told of every ledger next to it past a height.

-- A party's knowledge of the book b, in which everything of b at a height of at most ref stands.
pub record Seeing (d : Deal) (b : Histories) (v ref : ℕ) : Type 0 where
  pub known : Histories
  pub grows : Grows known b
  pub low : (a : ℕ) → IsNear d v a → ref < height (history known a)

module _ (d : Deal) (b : Histories) (v ref : ℕ) (k : IsAccepted d) (legal : IsLegalBook d b) (conducted : IsConducted d b v)
    (x : Seeing d b v ref) where
  near_below : (a : ℕ) → IsNear d v a → a < length d.graph.arcs
  near_below a (inl i) = (leaves d v a i).0
  near_below a (inr i) = (enters d v a i).0

  -- what stands at a height of at most ref is known
  pub in_known : (a : ℕ) (past : List Entry) (e : Entry) → IsNear d v a → IsMoment (history b a) past e → height past ≤ ref → IsMoment (history x.known a) past e
  in_known a past e l m low = let h = x.low a l in in_front (history x.known a) (history b a) past e (x.grows a) m (omega arith)

  pub published_known : (a : ℕ) (p : Publication) → IsNear d v a → published (history b a) ≡ Some p → p.height ≤ ref → published (history x.known a) ≡ Some p
  published_known a p l e low =
      let done = published_done d a (history b a) p (legal_on d b legal a (near_below a l)) e in
      let at : p.height ≡ height done.past = done.at in
      let m = in_known a done.past done.now l done.stands (omega arith) in
      let s =
      first_given_answer-now (λ e. publication e.height (accepted e)) (history x.known a) done.past done.now (record {
        height = done.now.height;
        terms =
            p.terms;
      }) m (ap (publication done.now.height) done.took) in
      sym (same_published d x.known b a x.grows s) ∙ e

  opened_known : (a i : ℕ) (o : Opening) → IsNear d v a → opened (history b a) i ≡ Some o → o.height ≤ ref → opened (history x.known a) i ≡ Some o
  opened_known a i o l e low =
      let u = opened_done d a (history b a) i o (legal_on d b legal a (near_below a l)) e in
      let at : o.height ≡ height u.0.past = u.0.at in
      let m = in_known a u.0.past u.0.now l u.0.stands (omega arith) in
      let s : is_open (history x.known a) i ≡ true =
      subst (λ j. is_open (history x.known a) j ≡ true) u.1 (opened-now (history x.known a) u.0.past u.0.now o.key m u.0.took) in
      let q = is_some-of (opened (history x.known a) i) s in
      q.1 ∙ (sym (opened-more (history x.known a) (history b a) i q.0 (x.grows a) q.1) ∙ e)

  good_known : (a : ℕ) → IsNear d v a → is_good d b a ≡ true → publication_height (published (history b a)) ≤ ref → is_good d x.known a ≡ true
  good_known a l g low =
      let c = correct d b a (and_parts (is_correct d b a) _ g).0 in
      let h : publication_height (published (history b a)) ≡ c.contract.height = ap publication_height c.published in
      let same : published (history x.known a) ≡ published (history b a) = published_known a c.contract l c.published (omega arith) ∙ sym c.published in
      ap (λ o. is_arc_correct d a o && nat_le (publication_height o) (times.opening_deadline d.start d.delta d.bound)) same ∙ g

  pub ready_known : is_ready d b v ≡ true → ready_height d b v ≤ ref → is_ready d x.known v ≡ true
  unfolding is_ready ready_height
  ready_known r low = list_all-from (is_good d x.known) (entering d.graph v) (λ a i.
      let h = greatest-in (λ a. publication_height (published (history b a))) (entering d.graph v) a i in
      good_known a (inr i) (ready_good d b v a r i) (omega arith))

  pub triggered_known : (a : ℕ) → IsNear d v a → is_triggered d b a ≡ true → trigger_height d (history b a) ≤ ref → triggered d (history x.known a) ≡ true
  triggered_known a l t low = list_all-from (is_open (history x.known a)) (locks d) (λ i z.
      let o = is_some-of (opened (history b a) i) (list_all-in (is_open (history b a)) (locks d) i t z) in
      let h = greatest-in (λ i. height_of_opening (opened (history b a) i)) (locks d) i z in
      let at : height_of_opening (opened (history b a) i) ≡ o.0.height = ap height_of_opening o.1 in
      ap is_some (opened_known a i o.0 l o.1 (omega arith)))

  -- an open lock shows the contract
  pub open_published : (a i : ℕ) → a < length d.graph.arcs → is_open (history x.known a) i ≡ true → is_some (published (history x.known a)) ≡ true
  open_published a i l e =
      let o = is_some-of (opened (history x.known a) i) e in
      let lk : IsLegal d a (history x.known a) =
      all_moments_front (IsLegalMoment d a) (history x.known a) (x.grows a).0 (subst (IsLegal d a) (x.grows a).1 (legal_on d b legal a l)) in
      let u = opened_done d a (history x.known a) i o.0 lk o.1 in
      let of_u = of_unlock d a u.0.past u.0.act.by o.0.key u.0.clear in
      ap is_some (published-past (history x.known a) u.0.past u.0.now of_u.contract u.0.stands of_u.published)

  -- a leaving arc on which a known hashkey opened lock i, without v on its path
  pub record Seen (i : ℕ) : Type 0 where
    arc : ℕ
    leaves : IsElement arc (leaving d.graph v)
    opening : Opening
    opened : opened (history b arc) i ≡ Some opening
    without : is_listed v opening.key.path ≡ false
    early : opening.height ≤ ref

  pub seen_key_some : (i : ℕ) → Seen i → is_some (seen_key d v x.known i) ≡ true
  unfolding seen_key
  seen_key_some i s =
      let o = opened_known s.arc i s.opening (inl s.leaves) s.opened s.early in
      first_given_answer-in (λ a. key_without_party v (opened (history x.known a) i)) (leaving d.graph v) s.arc s.opening.key s.leaves
      (ap (key_without_party v) o ∙ ap (λ z. cond z None (Some s.opening.key)) s.without)

  opens_without_parts : (o : Option Opening) → opens_without_party v o ≡ true → (z : Opening) × (o ≡ Some z) × (is_listed v z.key.path ≡ false)
  opens_without_parts None e = absurd (cc e)
  opens_without_parts (Some z) e = (z, refl, not-true-of _ e)

  -- the hashkey of v's first unlock call, with the rules that it keeps
  first_rules : (i : ℕ) (key : Hashkey) → first_key b v i ≡ Some key → (key.lock ≡ i) × (has_origin d.mode d b v key ≡ true)
  unfolding first_key keeps
  first_rules i key e =
      let f = first_at (λ e. unlock_hashkey i (pick_call v e)) (flat_map (λ h. h) b) key e in
      let parts = key_parts i (pick_call v f.now) key f.gives in
      let y = from_whole b f.now (subst (IsElement f.now) (sym f.stands.1) (in_from_moment f.past f.now f.stands.0)) in
      let m = moment_from_in (history b y.0) f.now y.2 in
      let q =
      and_five (is_some (published m.0)) (is_ready d b v) (is_first_key (first_key b v key.lock) key) (is_valid d y.0 (lock_hashlock d key.lock) key)
      _ (kept d b v conducted y.0 m.0 f.now (Unlock key) m.1 parts.0) in
      (parts.1, q.4)

  -- Hashkeys.

  seen_extended : (i t : ℕ) (key : Hashkey) → key.lock ≡ i → (y : Extended d b v key t) → is_listed v y.inner.path ≡ false → t ≤ ref → Seen i
  seen_extended i t key lock y apart low =
      let out = leaves d v y.arc y.leaves in
      let done = done_at d y.arc (history b y.arc) y.past y.now (Unlock y.inner) t (legal_on d b legal y.arc out.0) y.stands y.took y.height in
      let long = longer key v y.inner key.path key.sigs key y.extends in
      let lock_is : y.inner.lock ≡ i = long.1 ∙ lock in
      let s : is_open (history b y.arc) i ≡ true =
      subst (λ j. is_open (history b y.arc) j ≡ true) lock_is (opened-now (history b y.arc) y.past y.now y.inner y.stands y.took) in
      let o = is_some-of (opened (history b y.arc) i) s in
      let one = opened_key d y.arc (history b y.arc) i t y.inner o.0 (legal_on d b legal y.arc out.0) done lock_is o.1 in
      let at : o.0.height ≡ t = one.1 in
      record {
        arc = y.arc;
        leaves = y.leaves;
        opening = o.0;
        opened = o.1;
        without = ap (λ z. is_listed v z.path) one.0 ∙ apart;
        early = omega arith;
      }

  -- the hashkey that v extended
  by_extended : (i : ℕ) (key : Hashkey) → key.lock ≡ i
      → list_any (λ a. list_any (λ e. extends_without_party v key (accepted e)) (history b a)) (leaving d.graph v) ≡ true
      → greatest_used d b v (is_used d b v i (Some key)) ≤ ref → Seen i
  by_extended i key lock e low =
      let y = in_any (λ a. list_any (λ e. extends_without_party v key (accepted e)) (history b a)) (leaving d.graph v) e in
      let z = in_any (λ e. extends_without_party v key (accepted e)) (history b y.0) y.2 in
      let m = moment_from_in (history b y.0) z.0 z.1 in
      let p = extended_without v key (accepted z.0) z.2 in
      let used : is_used d b v i (Some key) z.0 ≡ true = ap (extends v key) p.1 ∙ p.3 in
      let h = used_in d b v (is_used d b v i (Some key)) y.0 z.0 y.1 z.1 used in
      let extended : Extended d b v key z.0.height =
      record { arc = y.0; leaves = y.1; past = m.0; now = z.0; stands = m.1; inner = p.0; took = p.1; height = refl; extends = p.3 } in
      seen_extended i z.0.height key lock extended p.2 (omega arith)

  -- the hashkey that v would extend
  by_without : (i : ℕ) → list_any (λ c. opens_without_party v (opened (history b c) i)) (leaving d.graph v) ≡ true
      → greatest_used d b v (is_used d b v i None) ≤ ref → Seen i
  by_without i e low =
      let y = in_any (λ c. opens_without_party v (opened (history b c) i)) (leaving d.graph v) e in
      let o = opens_without_parts (opened (history b y.0) i) y.2 in
      let s =
      is_some-of (first_seen_key d b v i) (first_given_answer-in (λ a. key_without_party v (opened (history b a) i)) (leaving d.graph v) y.0 o.0.key y.1
      (ap (key_without_party v) o.1 ∙ ap (λ z. cond z None (Some o.0.key)) o.2)) in
      let f = first_at (λ a. key_without_party v (opened (history b a) i)) (leaving d.graph v) s.0 s.1 in
      let w = subst (IsElement f.now) (sym f.stands.1) (in_from_moment f.past f.now f.stands.0) in
      let p = key_without_parts v (opened (history b f.now) i) s.0 f.gives in
      let u = opened_done d f.now (history b f.now) i p.0 (legal_on d b legal f.now (leaves d v f.now w).0) p.1 in
      let carried : is_used d b v i None u.0.now ≡ true =
      ap (λ o. is_carried o (accepted u.0.now)) s.1 ∙ (ap (is_carried (Some s.0)) u.0.took
      ∙ (ap (λ x. same_key x p.0.key) (sym p.2) ∙ same_key-refl p.0.key)) in
      let h =
      used_in d b v (is_used d b v i None) f.now u.0.now w (subst (IsElement u.0.now) (sym u.0.stands.1) (in_from_moment u.0.past u.0.now u.0.stands.0))
      carried in
      let at : p.0.height ≡ height u.0.past = u.0.at in
      let at2 : u.0.now.height ≡ height u.0.past = u.0.act.at in
      record { arc = f.now; leaves = w; opening = p.0; opened = p.1; without = p.3; early = omega arith }

  -- Timelocks.

  seen_open : (c i : ℕ) → d.mode ≡ Timelocks → IsElement c (leaving d.graph v) → is_open (history b c) i ≡ true
      → greatest (λ a. height_of_opening (opened (history b a) i)) (leaving d.graph v) ≤ ref → Seen i
  seen_open c i mode z e low =
      let o = is_some-of (opened (history b c) i) e in
      let l = (leaves d v c z).0 in
      let u = opened_done d c (history b c) i o.0 (legal_on d b legal c l) o.1 in
      let of_u = of_unlock d c u.0.past u.0.act.by o.0.key u.0.clear in
      let h = greatest-in (λ a. height_of_opening (opened (history b a) i)) (leaving d.graph v) c z in
      let at : height_of_opening (opened (history b c) i) ≡ o.0.height = ap height_of_opening o.1 in
      record { arc = c; leaves = z; opening = o.0; opened = o.1; without = ap (is_listed v) (no_path d c o.0.key mode of_u.path); early = omega arith }

  open_revealed : (i : ℕ) (key : Hashkey) → i < length d.leaders → length d.leaders ≡ 1
      → list_any (λ a. list_any (λ e. carries key.secret (accepted e)) (history b a)) (leaving d.graph v) ≡ true
      → (c : ℕ) × IsElement c (leaving d.graph v) × (is_open (history b c) i ≡ true)
  open_revealed i key below one e =
      let y = in_any (λ a. list_any (λ e. carries key.secret (accepted e)) (history b a)) (leaving d.graph v) e in
      let z = in_any (λ e. carries key.secret (accepted e)) (history b y.0) y.2 in
      let r = revealed key.secret (accepted z.0) z.2 in
      let m = moment_from_in (history b y.0) z.0 z.1 in
      let act = (clear_at d y.0 (history b y.0) m.0 z.0 (Unlock r.0) (legal_on d b legal y.0 (leaves d v y.0 y.1).0) m.1 r.1).0 in
      let low : r.0.lock < length d.leaders = lock-below d y.0 r.0 act.fits in
      let same : r.0.lock ≡ i = omega arith in
      (y.0, y.1, subst (λ j. is_open (history b y.0) j ≡ true) same (opened-now (history b y.0) m.0 z.0 r.0 m.1 r.1))

  open_without : (i : ℕ) → list_any (λ c. opens_without_party v (opened (history b c) i)) (leaving d.graph v) ≡ true
      → (c : ℕ) × IsElement c (leaving d.graph v) × (is_open (history b c) i ≡ true)
  open_without i e =
      let y = in_any (λ c. opens_without_party v (opened (history b c) i)) (leaving d.graph v) e in
      (y.0, y.1, ap is_some (opens_without_parts (opened (history b y.0) i) y.2).1)

  -- what an enabled unlock of a lock that v doesn't lead extends is known
  pub seen : (i : ℕ) → i < length d.leaders → leads d v i ≡ false
      → (is_some (first_key b v i) || list_any (λ c. opens_without_party v (opened (history b c) i)) (leaving d.graph v)) ≡ true
      → unlock_base d.mode d b v i (first_key b v i) ≤ ref → Seen i
  seen i below f enabled low = go d.mode refl (first_key b v i) refl
    where
      timed : d.mode ≡ Timelocks → length d.leaders ≡ 1
      timed e = (subst (λ m. IsTimed m d) e k.timed).0

      go : (m : Mode) → d.mode ≡ m → (o : Option Hashkey) → first_key b v i ≡ o → Seen i
      go Hashkeys em (Some key) eo =
          let r = first_rules i key eo in
          let origin : list_any (λ a. list_any (λ e. extends_without_party v key (accepted e)) (history b a)) (leaving d.graph v) ≡ true =
          ap (λ z. cond z (is_alone v key.path) (list_any (λ a. list_any (λ e. extends_without_party v key (accepted e)) (history b a)) (leaving d.graph v)))
          (sym (ap (leads d v) r.0 ∙ f)) ∙ (ap (λ m. has_origin m d b v key) (sym em) ∙ r.1) in
          by_extended i key r.0 origin
          (subst (λ n. n ≤ ref) (ap (λ m. unlock_base m d b v i (first_key b v i)) em ∙ ap (unlock_base Hashkeys d b v i) eo) low)
      go Hashkeys em None eo =
          let open_at : list_any (λ c. opens_without_party v (opened (history b c) i)) (leaving d.graph v) ≡ true =
          ap (λ o. is_some o || list_any (λ c. opens_without_party v (opened (history b c) i)) (leaving d.graph v)) (sym eo) ∙ enabled in
          by_without i open_at
          (subst (λ n. n ≤ ref) (ap (λ m. unlock_base m d b v i (first_key b v i)) em ∙ ap (unlock_base Hashkeys d b v i) eo) low)
      go Timelocks em (Some key) eo =
          let r = first_rules i key eo in
          let origin : list_any (λ a. list_any (λ e. carries key.secret (accepted e)) (history b a)) (leaving d.graph v) ≡ true =
          ap (λ z. z || list_any (λ a. list_any (λ e. carries key.secret (accepted e)) (history b a)) (leaving d.graph v)) (sym (ap (leads d v) r.0
          ∙ f)) ∙ (ap (λ m. has_origin m d b v key) (sym em) ∙ r.1) in
          let c = open_revealed i key below (timed em) origin in
          seen_open c.0 i em c.1 c.2 (subst (λ n. n ≤ ref) (ap (λ m. unlock_base m d b v i (first_key b v i)) em) low)
      go Timelocks em None eo =
          let open_at : list_any (λ c. opens_without_party v (opened (history b c) i)) (leaving d.graph v) ≡ true =
          ap (λ o. is_some o || list_any (λ c. opens_without_party v (opened (history b c) i)) (leaving d.graph v)) (sym eo) ∙ enabled in
          let c = open_without i open_at in
          seen_open c.0 i em c.1 c.2 (subst (λ n. n ≤ ref) (ap (λ m. unlock_base m d b v i (first_key b v i)) em) low)

-- A party's knowledge k of the book b, in which everything of b at a height of at most ref stands,
-- and over which nothing is due but perhaps publishes, and unlocks for locks that are held back.
pub record Told (d : Deal) (b : Histories) (v : ℕ) (w : Wallet) (ref due : ℕ) : Type 0 where
  pub known : Histories
  pub signed : ℕ → Option Hashkey
  pub held : ℕ → Bool
  pub grows : Grows known b
  pub idle : NothingElseDue d v signed w known held
  pub low : (a : ℕ) → IsNear d v a → ref < height (history known a)
  pub high : (a : ℕ) → height (history known a) ≤ due

-- One over which nothing is due at all.
pub record Informed (d : Deal) (b : Histories) (v : ℕ) (w : Wallet) (ref due : ℕ) : Type 0 where
  pub known : Histories
  pub signed : ℕ → Option Hashkey
  pub grows : Grows known b
  pub idle : NothingDue d v signed w known
  pub low : (a : ℕ) → IsNear d v a → ref < height (history known a)
  pub high : (a : ℕ) → height (history known a) ≤ due

module _ (d : Deal) (b : Histories) (v : ℕ) (w : Wallet) (ref due : ℕ) (k : IsAccepted d) (legal : IsLegalBook d b) (conducted : IsConducted d b v)
    (x : Told d b v w ref due) where
  abbrev sees : Seeing d b v ref
  sees = record { known = x.known; grows = x.grows; low = x.low }

  -- a known call of v that counts is in time
  done_by : (rule : Rule) (a : ℕ) (past : List Entry) (e : Entry) (c : Call) → a < length d.graph.arcs → IsMoment (history x.known a) past e
      → pick_call v e ≡ Some c → counts d b v rule a e.height (Some c) ≡ true → is_done d b v rule a due ≡ true
  done_by rule a past e c l m called counted =
      let m2 = moment_more (history x.known a) (history b a) past e (x.grows a) m in
      let act = act_of d a (history b a) past e c v (legal_on d b legal a l) m2 called in
      let at : e.height ≡ height past = act.0.at in
      let h1 = height-past (history x.known a) past e m in
      let h2 = x.high a in
      list_any-in (λ e. counts d b v rule a e.height (pick_call v e) && nat_le e.height due) (history b a) e
      (and_both (counts d b v rule a e.height (pick_call v e)) _ (ap (counts d b v rule a e.height) called ∙ counted) (le-leb e.height due (omega arith)))
      (subst (IsElement e) (sym m2.1) (in_from_moment past e m2.0))

  -- Publish.

  -- no publish is due either
  abbrev NoPublish : Type 0
  NoPublish = (a : ℕ) → IsElement a (leaving d.graph v) → is_due_publish d v x.known a ≡ false

  publish_known : NoPublish → (a : ℕ) → IsElement a (leaving d.graph v) → (leads_one d v || is_ready d b v) ≡ true → (leads_one d v ≡ false → ready_height d b v ≤ ref)
      → has_called v is_publish (history x.known a) ≡ true
  unfolding is_due_publish
  publish_known none a i may low =
      and_not (leads_one d v || is_ready d x.known v) (has_called v is_publish (history x.known a)) (none a i) (go (leads_one d v) refl may)
    where
      go : (y : Bool) → leads_one d v ≡ y → (y || is_ready d b v) ≡ true → (leads_one d v || is_ready d x.known v) ≡ true
      go true e m = or-left (leads_one d v) _ e
      go false e m = or-right (leads_one d v) _ (ready_known d b v ref k legal conducted sees m (low e))

  publish_is : (c : Call) → is_publish (Some c) ≡ true → (t : Terms) × (c ≡ Publish t)
  publish_is (Publish t) e = (t, refl)
  publish_is (Unlock key) e = absurd (cc e)
  publish_is Claim e = absurd (cc e)
  publish_is Refund e = absurd (cc e)
  publish_is (Transfer to units) e = absurd (cc e)

  publish_done : NoPublish → (a : ℕ) → reference_height d b v ToPublish a ≡ Some ref → is_done d b v ToPublish a due ≡ true
  unfolding reference_height counts
  publish_done none a e =
      let s = when_some (is_listed a (leaving d.graph v) && (leads_one d v || is_ready d b v)) (if leads_one d v then 0 else ready_height d b v) ref e in
      let p = and_parts (is_listed a (leaving d.graph v)) (leads_one d v || is_ready d b v) s.0 in
      let i = is_listed-true a (leaving d.graph v) p.0 in
      let c =
      called_at v (history x.known a) is_publish refl (publish_known none a i p.1 (λ f.
      let z : ready_height d b v ≡ ref = ap (λ y. cond y 0 (ready_height d b v)) (sym f) ∙ s.1 in omega arith)) in
      let t = publish_is c.call c.passes in
      done_by ToPublish a c.past c.now (Publish t.0) (leaves d v a i).0 c.stands (c.called ∙ ap Some t.1) refl

  -- Claim.

  claim_is : (c : Call) → is_claiming (Some c) ≡ true → c ≡ Claim
  claim_is Claim e = refl
  claim_is (Publish t) e = absurd (cc e)
  claim_is (Unlock key) e = absurd (cc e)
  claim_is Refund e = absurd (cc e)
  claim_is (Transfer to units) e = absurd (cc e)

  pub claim_done : (a : ℕ) → reference_height d b v ToClaim a ≡ Some ref → is_done d b v ToClaim a due ≡ true
  unfolding reference_height counts is_due_claim
  claim_done a e =
      let s = when_some (is_listed a (entering d.graph v) && is_correct d b a && is_triggered d b a) (trigger_height d (history b a)) ref e in
      let p = and_three (is_listed a (entering d.graph v)) (is_correct d b a) (is_triggered d b a) s.0 in
      let i = is_listed-true a (entering d.graph v) p.0 in
      let l = (enters d v a i).0 in
      let same : trigger_height d (history b a) ≡ ref = s.1 in
      let t = triggered_known d b v ref k legal conducted sees a (inr i) p.2 (omega arith) in
      let shown = open_published d b v ref k legal conducted sees a 0 l (list_all-in (is_open (history x.known a)) (locks d) 0 t (in_range 0 (length d.leaders) k.leaders.0)) in
      let right : is_correct d x.known a ≡ true = ap (is_arc_correct d a) (sym (same_published d x.known b a x.grows shown)) ∙ p.1 in
      let c =
      called_at v (history x.known a) is_claiming refl (and_not (is_correct d x.known a && is_triggered d x.known a)
      (has_called v is_claiming (history x.known a)) (x.idle.claim a i) (and_both (is_correct d x.known a) _ right t)) in
      done_by ToClaim a c.past c.now Claim l c.stands (c.called ∙ ap Some (claim_is c.call c.passes)) refl

  -- Refund.

  refund_is : (c : Call) → is_refunding (Some c) ≡ true → c ≡ Refund
  refund_is Refund e = refl
  refund_is (Publish t) e = absurd (cc e)
  refund_is (Unlock key) e = absurd (cc e)
  refund_is Claim e = absurd (cc e)
  refund_is (Transfer to units) e = absurd (cc e)

  -- a refund call of v counts: the lock that was closed and expired then stays closed
  refund_counts : (a : ℕ) (past : List Entry) (e : Entry) → IsElement a (leaving d.graph v) → IsMoment (history x.known a) past e → pick_call v e ≡ Some Refund
      → is_done d b v ToRefund a due ≡ true
  unfolding counts keeps
  refund_counts a past e i m called =
      let l = (leaves d v a i).0 in
      let m2 = moment_more (history x.known a) (history b a) past e (x.grows a) m in
      let at : e.height ≡ height past = (act_of d a (history b a) past e Refund v (legal_on d b legal a l) m2 called).0.at in
      let expired : has_expired d a past e.height ≡ true = kept d b v conducted a past e Refund m2 called in
      let still =
      still_expired d (times_law d k) a l past (history b a) (legal_on d b legal a l) (e ∷ m2.0, m2.1) (λ p q.
      OwnPublish.correct (own_publish d b v conducted legal a p i q)) e.height e.height expired (omega arith) (omega arith) in
      done_by ToRefund a past e Refund l m called (lt-ltb (least_expiry d a (history b a)) e.height (expired-least d a (history b a) e.height still))

  -- v's accepted publish on a leaving arc is known, where ref is late enough
  own_known : NoPublish → (a : ℕ) (p : Publication) → IsElement a (leaving d.graph v) → times.opening_deadline d.start d.delta d.bound ≤ ref
      → published (history b a) ≡ Some p
      → is_some (published (history x.known a)) ≡ true
  unfolding keeps ready_height
  own_known none a p i same e =
      let out = leaves d v a i in
      let done = published_done d a (history b a) p (legal_on d b legal a out.0) e in
      let by : done.act.by ≡ v = (of_publish d a done.past done.act.by p.terms done.clear).party ∙ out.1 in
      let called = pick_call-act d a done.past done.now (Publish p.terms) v done.act by in
      let r =
      and_three (same_terms p.terms (stated_terms d a)) (count_by (λ e. is_publish (pick_call v e)) (history b a) == 1) (leads_one d v || is_ready d b v)
      (kept d b v conducted a done.past done.now (Publish p.terms) done.stands called) in
      let c = called_at v (history x.known a) is_publish refl (publish_known none a i r.2 (λ f.
      let ready : is_ready d b v ≡ true = ap (λ y. y || is_ready d b v) (sym f) ∙ r.2 in
      let h : ready_height d b v ≤ times.opening_deadline d.start d.delta d.bound =
      greatest-below (λ a. publication_height (published (history b a))) (entering d.graph v) (times.opening_deadline d.start d.delta d.bound)
      (λ c w. leb-true _ _ (and_parts (is_correct d b c) _ (ready_good d b v c ready w)).1) in
      omega arith)) in
      let one =
      count_one (λ e. is_publish (pick_call v e)) (history b a) done.past c.past done.now c.now (eqb-true _ 1 r.1) done.stands
      (moment_more (history x.known a) (history b a) c.past c.now (x.grows a) c.stands) (ap is_publish called) (ap is_publish c.called
      ∙ c.passes) in
      first_given_answer-now (λ e. publication e.height (accepted e)) (history x.known a) c.past c.now (record {
        height = c.now.height;
        terms =
            p.terms;
      }) c.stands (ap (publication c.now.height) (ap accepted (sym one.1) ∙ done.took))

  refund_done : NoPublish → (a : ℕ) → reference_height d b v ToRefund a ≡ Some ref → is_done d b v ToRefund a due ≡ true
  unfolding reference_height is_due_refund
  refund_done none a e =
      let s =
      when_some (is_listed a (leaving d.graph v) && is_some (published (history b a)) && not (is_triggered d b a)) (least_expiry d a (history b a))
      ref e in
      let p = and_three (is_listed a (leaving d.graph v)) (is_some (published (history b a))) (not (is_triggered d b a)) s.0 in
      let i = is_listed-true a (leaving d.graph v) p.0 in
      let l = (leaves d v a i).0 in
      let q = is_some-of (published (history b a)) p.1 in
      let first = first_expiry d a (stated_terms d a) (is_open (history b a)) (not-true-of _ p.2) in
      let same : least_expiry d a (history b a) ≡ ref = s.1 in
      let t1 = (times_law d k).opens a first.lock l in
      let t2 = first.height in
      let shown = own_known none a q.0 i (omega arith) q.1 in
      let shut : triggered d (history x.known a) ≡ false =
      not-true _ (λ t. false≢true (sym (not-true-of _ p.2) ∙ triggered-more d (history x.known a) (history b a) (x.grows a) t)) in
      let low = x.low a (inl i) in
      let closed : is_open (history x.known a) first.lock ≡ false =
      not-true _ (λ t. false≢true (sym first.closed ∙ is_open-more (history x.known a) (history b a) first.lock (x.grows a) t)) in
      go i l shown shut (has_expired-lock d a (history x.known a) (height (history x.known a)) first.lock first.within closed (omega arith))
      (settled (history x.known a)) refl
    where
      go : IsElement a (leaving d.graph v) → (l : a < length d.graph.arcs) → is_some (published (history x.known a)) ≡ true
          → triggered d (history x.known a) ≡ false → has_expired d a (history x.known a) (height (history x.known a)) ≡ true → (z : Option Settlement)
          → settled (history x.known a) ≡ z → is_done d b v ToRefund a due ≡ true
      go i l shown shut late None z =
          let c =
          called_at v (history x.known a) is_refunding refl
          (and_not (is_some (published (history x.known a)) && is_none (settled (history x.known a)) && not (is_triggered d x.known a)
          && has_expired d a (history x.known a) (height (history x.known a))) _ (x.idle.refund a i)
          (and_both (is_some (published (history x.known a)) && is_none (settled (history x.known a)) && not (is_triggered d x.known a)) _
          (and_both (is_some (published (history x.known a)) && is_none (settled (history x.known a))) _
          (and_both (is_some (published (history x.known a))) _ shown (ap is_none z)) (ap not shut)) late)) in
          refund_counts a c.past c.now i c.stands (c.called ∙ ap Some (refund_is c.call c.passes))
      go i l shown shut late (Some Claimed) z =
          let lk : IsLegal d a (history x.known a) =
          all_moments_front (IsLegalMoment d a) (history x.known a) (x.grows a).0 (subst (IsLegal d a) (x.grows a).1 (legal_on d b legal a l)) in
          let c = (claimed_done d a (history x.known a) lk z).1 in
          absurd (false≢true (sym shut ∙ triggered-past d (history x.known a) c.past c.now c.stands (of_claim d a c.past c.act.by c.clear).triggered))
      go i l shown shut late (Some Refunded) z =
          let lk : IsLegal d a (history x.known a) =
          all_moments_front (IsLegalMoment d a) (history x.known a) (x.grows a).0 (subst (IsLegal d a) (x.grows a).1 (legal_on d b legal a l)) in
          let c = (refunded_done d a (history x.known a) lk z).1 in
          let by : c.act.by ≡ v = (of_refund d a c.past c.act.by c.clear).party ∙ (leaves d v a i).1 in
          refund_counts a c.past c.now i c.stands (pick_call-act d a c.past c.now Refund v c.act by)

  -- Unlock.

  due_key_some : (i : ℕ) → (leads d v i || is_some (seen_key d v x.known i)) ≡ true → due_key d v w (x.signed i) x.known i ≡ None → ⊥
  unfolding due_key
  due_key_some i h e = go (x.signed i) (leads d v i) (seen_key d v x.known i) h e
    where
      go : (s : Option Hashkey) (y : Bool) (o : Option Hashkey) → (y || is_some o) ≡ true → or_else s (cond y (Some (w.first i)) (extended w o)) ≡ None → ⊥
      go (Some key) y o h e = cc e
      go None true o h e = cc e
      go None false (Some key) h e = cc e
      go None false None h e = cc h

  unlock_is : (i : ℕ) (c : Call) → unlocks_lock i (Some c) ≡ true → (key : Hashkey) × (c ≡ Unlock key) × ((key.lock == i) ≡ true)
  unlock_is i (Unlock key) e = (key, refl, e)
  unlock_is i (Publish t) e = absurd (cc e)
  unlock_is i Claim e = absurd (cc e)
  unlock_is i Refund e = absurd (cc e)
  unlock_is i (Transfer to units) e = absurd (cc e)

  unlock_called : (i a : ℕ) → IsElement a (entering d.graph v) → has_called v (unlocks_lock i) (history x.known a) ≡ true → is_done d b v (ToUnlock i) a due ≡ true
  unfolding counts keeps
  unlock_called i a z h =
      let l = (enters d v a z).0 in
      let c = called_at v (history x.known a) (unlocks_lock i) refl h in
      let u = unlock_is i c.call c.passes in
      let called : pick_call v c.now ≡ Some (Unlock u.0) = c.called ∙ ap Some u.1 in
      let m = moment_more (history x.known a) (history b a) c.past c.now (x.grows a) c.stands in
      let q =
      and_five (is_some (published c.past)) (is_ready d b v) (is_first_key (first_key b v u.0.lock) u.0) (is_valid d a (lock_hashlock d u.0.lock) u.0)
      _ (kept d b v conducted a c.past c.now (Unlock u.0) m called) in
      done_by (ToUnlock i) a c.past c.now (Unlock u.0) l c.stands called
      (and_both (u.0.lock == i) _ u.2 (subst (λ j. is_first_key (first_key b v j) u.0 ≡ true) (eqb-true u.0.lock i u.2) q.2))

  -- a party is ready by the height by which contracts open
  low_height : is_ready d b v ≡ true → ready_height d b v ≤ times.opening_deadline d.start d.delta d.bound
  unfolding ready_height
  low_height ready = greatest-below (λ a. publication_height (published (history b a))) (entering d.graph v) (times.opening_deadline d.start d.delta d.bound)
      (λ c w. leb-true _ _ (and_parts (is_correct d b c) _ (ready_good d b v c ready w)).1)

  -- an enabled unlock is done, where its lock isn't held back
  pub unlock_done : (i a : ℕ) → i < length d.leaders → ((leads d v i ≡ true → ref ≤ times.opening_deadline d.start d.delta d.bound) → x.held i ≡ false)
      → reference_height d b v (ToUnlock i) a ≡ Some ref → is_done d b v (ToUnlock i) a due ≡ true
  unfolding reference_height
  unlock_done i a below free e =
      let s =
      when_some (is_listed a (entering d.graph v) && is_ready d b v
      && (leads d v i || is_some (first_key b v i) || list_any (λ c. opens_without_party v (opened (history b c) i)) (leaving d.graph v)))
      (if leads d v i then ready_height d b v else max (ready_height d b v) (unlock_base d.mode d b v i (first_key b v i))) ref e in
      let p = and_three (is_listed a (entering d.graph v)) (is_ready d b v) _ s.0 in
      let z = is_listed-true a (entering d.graph v) p.0 in
      go z p.1 p.2 s.1 (bool_or (has_called v (unlocks_lock i) (history x.known a))) (leads d v i) refl
    where
      go : IsElement a (entering d.graph v) → is_ready d b v ≡ true
          → (leads d v i || is_some (first_key b v i) || list_any (λ c. opens_without_party v (opened (history b c) i)) (leaving d.graph v)) ≡ true
          → (if leads d v i then ready_height d b v else max (ready_height d b v) (unlock_base d.mode d b v i (first_key b v i))) ≡ ref
          → (has_called v (unlocks_lock i) (history x.known a) ≡ true) ⊎ (has_called v (unlocks_lock i) (history x.known a) ≡ false)
          → (y : Bool) → leads d v i ≡ y → is_done d b v (ToUnlock i) a due ≡ true
      go z ready enabled same (inl h) y f = unlock_called i a z h
      go z ready enabled same (inr h) true f =
          let r : ready_height d b v ≡ ref =
          ap (λ y. cond y (ready_height d b v) (max (ready_height d b v) (unlock_base d.mode d b v i (first_key b v i)))) (sym f) ∙ same in
          let may = and_both (is_ready d x.known v) _ (ready_known d b v ref k legal conducted sees ready (omega arith)) (ap not h) in
          let top = low_height ready in
          absurd (due_key_some i (or-left (leads d v i) _ f) (x.idle.unlock i a below z may (free (λ q. omega arith))))
      go z ready enabled same (inr h) false f =
          let r : max (ready_height d b v) (unlock_base d.mode d b v i (first_key b v i)) ≡ ref =
          ap (λ y. cond y (ready_height d b v) (max (ready_height d b v) (unlock_base d.mode d b v i (first_key b v i)))) (sym f) ∙ same in
          let may = and_both (is_ready d x.known v) _ (ready_known d b v ref k legal conducted sees ready (omega arith)) (ap not h) in
          let known =
          seen d b v ref k legal conducted sees i below f (ap (λ y. y || is_some (first_key b v i) || list_any (λ c. opens_without_party v (opened (history b c) i)) (leaving d.graph v))
          (sym f) ∙ enabled) (omega arith) in
          absurd (due_key_some i (or-right (leads d v i) _ (seen_key_some d b v ref k legal conducted sees i known)) (x.idle.unlock i a below z may (free (λ q. absurd (false≢true (sym f ∙ q))))))

module _ (d : Deal) (b : Histories) (v : ℕ) (w : Wallet) (ref due : ℕ) (k : IsAccepted d) (legal : IsLegalBook d b) (conducted : IsConducted d b v)
    (x : Informed d b v w ref due) where
  told : Told d b v w ref due
  told = record {
    known = x.known;
    signed = x.signed;
    grows = x.grows;
    held = λ i. false;
    idle = record { unlock = λ i a l j t free. x.idle.unlock i a l j t; claim = x.idle.claim; refund = x.idle.refund };
    low = x.low;
    high = x.high;
  }

  -- an enabled action is done
  pub informed_done : (rule : Rule) (a : ℕ) → IsElement rule (deal_rules d) → reference_height d b v rule a ≡ Some ref → is_done d b v rule a due ≡ true
  unfolding told
  informed_done ToPublish a i e = publish_done d b v w ref due k legal conducted told x.idle.publish a e
  informed_done (ToUnlock l) a i e = unlock_done d b v w ref due k legal conducted told l a (lock_of_rule d l i) (λ q. refl) e
  informed_done ToClaim a i e = claim_done d b v w ref due k legal conducted told a e
  informed_done ToRefund a i e = refund_done d b v w ref due k legal conducted told x.idle.publish a e

-- Rounds.

module _ (d : Deal) (v : ℕ) (w : Wallet) (ticks slack rounds : ℕ) (books : ℕ
    → Histories) (k : IsAccepted d) (some : 1 ≤ ticks) (x : IsRounds d v w ticks slack rounds books) where
  climb : (m r a : ℕ) → r + m ≡ rounds → Begins (history (books r) a) (history (books rounds) a)
  climb zero r a e = let same : r ≡ rounds =
      omega arith in subst (λ z. Begins (history (books r) a) (history (books z) a)) same (begins_refl (history (books r) a))
  climb (suc m) r a e =
      begins_more (history (books r) a) (history (books (r + 1)) a) (history (books rounds) a) (x.grows r a (omega arith))
      (climb m (r + 1) a (omega arith))

  near : (a : ℕ) → IsNear d v a → a < length d.graph.arcs
  near a (inl i) = (leaves d v a i).0
  near a (inr i) = (enters d v a i).0

  informed : (ref q : ℕ) → ref < q * ticks → q * ticks ≤ ref + ticks → q < rounds → Informed d (books rounds) v w ref (ref + ticks + slack)
  informed ref q low high inside =
      let t = x.turn q inside in
      record {
        known = t.known;
        signed = t.signed;
        grows = λ a. let n =
            t.knows a in begins_more (history t.known a) (history (books (q + 1)) a) (history (books rounds) a) (n.rest, n.whole)
            (climb (rounds - (q + 1)) (q + 1) a (omega arith));
        idle = nothing_due d v w t.signed t.known t.done;
        low = λ a i. let h = begins_height (history (books q) a) (history t.known a) (t.seen a i) in let at =
            x.at q a (omega arith) (in_range a (length d.graph.arcs) (near a i)) in omega arith;
        high = λ a. let h = t.top a in omega arith;
      }

  in_time : (rule : Rule) (a ref : ℕ) → IsElement rule (deal_rules d) → IsElement a (arcs d.graph) → reference_height d (books rounds) v rule a ≡ Some ref
      → IsDoneInTime d (books rounds) v rule a (ref + ticks + slack)
  in_time rule a ref i j e =
      let q = next_round ticks some ref in
      go q.0 q.1 q.2 (nat_lt q.0 rounds) refl
    where
      go : (q : ℕ) → ref < q * ticks → q * ticks ≤ ref + ticks → (y : Bool) → nat_lt q rounds ≡ y → IsDoneInTime d (books rounds) v rule a (ref + ticks + slack)
      go q low high true h =
          inl (informed_done d (books rounds) v w ref (ref + ticks + slack) k (x.legal rounds (omega arith)) x.conducted
          (informed ref q low high (ltb-true q rounds h)) rule a i e)
      go q low high false h =
          let past : rounds ≤ q = ltb-false q rounds h in
          let at = x.at rounds a (omega arith) j in
          let m : rounds * ticks ≤ q * ticks = mul-le-mul_right ticks past in
          inr (omega arith)

pub rounds_in_time : RoundsAreInTime
rounds_in_time d v w ticks slack rounds books k some x rule a ref i j e = in_time d v w ticks slack rounds books k some x rule a ref i j e

done_more : (d : Deal) (b : Histories) (v : ℕ) (rule : Rule) (a s t : ℕ) → s ≤ t → is_done d b v rule a s ≡ true → is_done d b v rule a t ≡ true
done_more d b v rule a s t l h =
    let y = in_any (λ e. counts d b v rule a e.height (pick_call v e) && nat_le e.height s) (history b a) h in
    let p = and_parts (counts d b v rule a y.0.height (pick_call v y.0)) (nat_le y.0.height s) y.2 in
    let low = leb-true y.0.height s p.1 in
    list_any-in (λ e. counts d b v rule a e.height (pick_call v e) && nat_le e.height t) (history b a) y.0
    (and_both (counts d b v rule a y.0.height (pick_call v y.0)) _ p.0 (le-leb y.0.height t (omega arith))) y.1

-- an action that is done within delta isn't late
pub done_not_late : (d : Deal) (b : Histories) (v n : ℕ) → n ≤ d.delta → (rule : Rule) (a : ℕ)
    → ((ref : ℕ) → reference_height d b v rule a ≡ Some ref → IsDoneInTime d b v rule a (ref + n)) → is_late d b v rule a ≡ false
done_not_late d b v n fast rule a by = go (reference_height d b v rule a) refl
  where
    go : (o : Option ℕ) → reference_height d b v rule a ≡ o → is_past_due d b v rule a o ≡ false
    go None e = refl
    go (Some ref) e = elim (by ref e) [
      | inl h ↦ ap (λ z. nat_lt (ref + d.delta) (height (history b a)) && not z) (done_more d b v rule a (ref + n) (ref + d.delta) (omega arith) h)
          ∙ and_false (nat_lt (ref + d.delta) (height (history b a)))
      | inr l ↦ ap (λ z. z && not (is_done d b v rule a (ref + d.delta))) (le-ltb (ref + d.delta) (height (history b a)) (omega arith))
    ]

pub rounds_on_time : RoundsAreOnTime
rounds_on_time d v w ticks slack rounds books k some fast x rule a i j = done_not_late d (books rounds) v (ticks + slack) fast rule a (λ ref e.
    subst (λ n. IsDoneInTime d (books rounds) v rule a n) (omega arith) (in_time d v w ticks slack rounds books k some x rule a ref i j e))

-- Races.

rounds_of_race : (d : Deal) (v : ℕ) (w : Wallet) (ticks rounds : ℕ) (books : List Histories) → AreRaceBooks d v w ticks rounds books
    → IsRounds d v w ticks ticks rounds (round_book books)
rounds_of_race d v w ticks rounds books x = record {
  legal = x.legal;
  conducted = x.conducted;
  grows = x.grows;
  at = x.at;
  turn = λ r l.
      let t = x.turn r l in
      record {
        known = t.known;
        signed = first_key t.known v;
        seen = t.seen;
        knows = t.knows;
        done = t.done;
        top =
            λ a. top r l a t (nat_lt a (length d.graph.arcs)) refl;
      };
}
  where
    top : (r : ℕ) → r < rounds → (a : ℕ) → (t : IsRaceTurn d v w (round_book books r) (round_book books (r + 1))) → (y : Bool)
        → nat_lt a (length d.graph.arcs) ≡ y → height (history (IsRaceTurn.known t) a) ≤ r * ticks + ticks
    top r l a t true e =
        let n = IsRaceTurn.knows t a in
        let h = begins_height (history (IsRaceTurn.known t) a) (history (round_book books (r + 1)) a) (n.rest, n.whole) in
        let at = x.at (r + 1) a (omega arith) (in_range a (length d.graph.arcs) (ltb-true a (length d.graph.arcs) e)) in
        omega arith
    top r l a t false e =
        let n = IsRaceTurn.knows t a in
        let h = begins_height (history (IsRaceTurn.known t) a) (history (round_book books (r + 1)) a) (n.rest, n.whole) in
        let g = x.legal (r + 1) (omega arith) in
        let none : history (round_book books (r + 1)) a ≡ [] =
        past_end (round_book books (r + 1)) a (λ q. false≢true (sym e ∙ lt-ltb a (length d.graph.arcs) (subst (λ z. a < z) g.one_each q))) in
        let z : ◌≡◌ {A = ℕ} (height (history (round_book books (r + 1)) a)) 0 = ap height none in
        omega arith

pub races_in_time : RacesAreInTime
races_in_time d v w ticks rounds books k some x =
    let y = rounds_of_race d v w ticks rounds books x in (
      λ rule a ref i j e. subst (λ n. IsDoneInTime d (round_book books rounds) v rule a n) (omega arith)
          (in_time d v w ticks ticks rounds (round_book books) k some y rule a ref i j e),
      λ fast. rounds_on_time d v w ticks ticks rounds (round_book books) k some (omega arith) y,
    )
