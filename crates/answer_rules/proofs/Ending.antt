-- Where every arc next to a party is finished, nothing that lands without calls of the party makes
-- anything useful.
use Rattle.std.proofs.Common.{◌≡◌, ◌⊎◌, ℕ, ◌≤◌, ◌<◌, nat_lt, nat_le, Bool, true, false, not, ◌&&◌, ◌||◌, List, [], ◌∷◌, length, Option, Some, None, is_some}
use Rattle.std.proofs.Common.{is_none, refl, sym, ap, ap₂, ◌∙◌, subst, inl, inr, arith, leb-true, ltb-true, eq-eqb}
use Rattle.std.specs.List.{list_all}
use Rattle.std.proofs.lemmas.Bool.{false≢true}
use Rattle.swap_base.specs.Lists.{or_else, first_given_answer, IsElement, IsMoment}
use Rattle.swap_base.proofs.Lists.{first_given_answer-front, first_given_answer-now, and_parts, and_both, list_all-in, list_all-from, list_any-in, from_append}
use Rattle.swap_base.proofs.Lists.{in_flat_map, in_from_moment, in_range}
use Rattle.time_bounds.specs.Times as times
use Rattle.swap_digraph.specs.declared.deal.Deal.{Deal}
use Rattle.swap_digraph.specs.Graph.{leaving, entering}
use Rattle.swap_digraph.specs.Deal.{locks, party, counterparty}
use Rattle.hashkey_path.specs.declared.hashkey.Hashkey.{Hashkey}
use Rattle.escrow_core.specs.Terms.{stated_terms, last_unlock}
use Rattle.ledger_core.specs.declared.entry.Call.{Call}
use Rattle.ledger_core.specs.declared.entry.Call.TheVariants.{Publish, Unlock, Claim, Refund}
use Rattle.ledger_core.specs.declared.entry.Entry.{Entry}
use Rattle.ledger_core.specs.declared.facts.Settlement.{Settlement}
use Rattle.ledger_core.specs.declared.facts.Settlement.TheVariants.{Claimed, Refunded}
use Rattle.ledger_core.specs.History.{height, accepted, Publication, publication, published, Opening, opened, is_open, settling, settled, IsLegal}
use Rattle.ledger_core.specs.Book.{Histories, history, IsLegalBook}
use Rattle.ledger_core.proofs.History.{Done, published_done, opened_done, claimed_done, refunded_done, of_publish, of_unlock, of_claim, of_refund}
use Rattle.ledger_core.proofs.History.{published-past, opened-now, is_some-of, not-true-of}
use Rattle.swap_rules.specs.Accepted.{IsAccepted}
use Rattle.swap_rules.specs.Party.{is_arc_correct, publication_height, is_good, is_correct, is_ready, is_triggered, has_expired, leads_one, pick_call}
use Rattle.swap_rules.specs.Conduct.{is_publish}
use Rattle.swap_rules.specs.Due.{Wallet, Action, has_called, unlocks_lock, is_claiming, is_refunding, is_due_publish}
use Rattle.swap_rules.specs.Due.{is_due_claim, is_due_refund, when_due, due_claims, due_refunds}
use Rattle.swap_rules.specs.Machine.{Begins, Knows}
use Rattle.swap_rules.specs.Useful.{opens_in_time, accepts, takes, useful_publishes, useful_unlocks, useful}
use Rattle.swap_rules.proofs.Useful.{higher_is_less}
use Rattle.swap_rules.proofs.Growth.{opened-more, ready_good}
use Rattle.swap_rules.proofs.Machines.{own_known}
use Rattle.swap_rules.proofs.Prefixes.{from_flat_map, split, begins_height, list_any-more, in_any, none_called}
use Rattle.swap_rules.proofs.Words.{and_three, and_five, enters, leaves, pick_call-act}
use Rattle.answer_rules.specs.Finished.{greatest_expiry, is_shut, is_arc_finished, are_finished, ContinuesWithoutParty}
use Rattle.answer_rules.specs.Laws.{FinishedStays}
use Rattle.answer_rules.proofs.UsefulKinds.{in_when, to_when, Kind, InPublishes, InUnlocks, InClaims, InRefunds, kind, is_useful, unlocked}

first_same : {A B : Type 0} (f g : A → Option B) (xs : List A) → ((x : A) → IsElement x xs → f x ≡ g x) → first_given_answer f xs ≡ first_given_answer g xs
first_same f g [] h = refl
first_same f g (x ∷ xs) h = ap₂ or_else (h x (inl refl)) (first_same f g xs (λ y i. h y (inr i)))

some_none : (o : Option Publication) → is_none o ≡ true → is_some o ≡ true → ⊥
some_none None e f = false≢true f
some_none (Some p) e f = false≢true e

-- What a legal history shows.

-- a settled contract was published
settled_published : (d : Deal) (a : ℕ) (h : List Entry) (s : Settlement) → IsLegal d a h → settled h ≡ Some s → is_some (published h) ≡ true
settled_published d a h Claimed l e =
    let r = claimed_done d a h l e in
    let c = of_claim d a r.1.past r.1.act.by r.1.clear in
    ap is_some (published-past h r.1.past r.1.now c.contract r.1.stands c.published)
settled_published d a h Refunded l e =
    let r = refunded_done d a h l e in
    let c = of_refund d a r.1.past r.1.act.by r.1.clear in
    ap is_some (published-past h r.1.past r.1.now c.contract r.1.stands c.published)

-- One arc, whose history goes on without calls of v.
module _ (d : Deal) (v a : ℕ) (k h : List Entry) (lk : IsLegal d a k) (lh : IsLegal d a h) (on : Knows v k h) where
  pub begins : Begins k h
  begins = (Knows.rest on, Knows.whole on)

  pub higher : height k ≤ height h
  higher = begins_height k h begins

  -- v has called nothing that it hadn't
  pub called_before : (test : Option Call → Bool) → test None ≡ false → has_called v test h ≡ true → has_called v test k ≡ true
  called_before test none e =
      let i = in_any (λ x. test (pick_call v x)) h e in go i.0 i.2 (from_append k (Knows.rest on) i.0 (subst (IsElement i.0) (Knows.whole on) i.1))
    where
      go : (x : Entry) → test (pick_call v x) ≡ true → IsElement x k ⊎ IsElement x (Knows.rest on) → has_called v test k ≡ true
      go x t (inl i) = list_any-in (λ y. test (pick_call v y)) k x t i
      go x t (inr i) = absurd (false≢true (sym none ∙ (ap test (sym (none_called v x (on.others x i))) ∙ t)))

  pub called_more : (test : Option Call → Bool) → has_called v test k ≡ true → has_called v test h ≡ true
  called_more test e = ap (has_called v test) (Knows.whole on) ∙ list_any-more (λ x. test (pick_call v x)) k (Knows.rest on) e

  pub uncalled_before : (test : Option Call → Bool) → not (has_called v test h) ≡ true → not (has_called v test k) ≡ true
  uncalled_before test e = go (has_called v test k) refl
    where
      go : (b : Bool) → has_called v test k ≡ b → not (has_called v test k) ≡ true
      go false q = ap not q
      go true q = absurd (false≢true (sym (not-true-of (has_called v test h) e) ∙ called_more test q))

  published_more : (p : Publication) → published k ≡ Some p → published h ≡ Some p
  published_more p e = ap published (Knows.whole on) ∙ first_given_answer-front (λ x. publication x.height (accepted x)) k (Knows.rest on) p e

  settled_more : (s : Settlement) → settled k ≡ Some s → settled h ≡ Some s
  settled_more s e = ap settled (Knows.whole on) ∙ first_given_answer-front (λ x. settling (accepted x)) k (Knows.rest on) s e

  pub same_published : is_some (published k) ≡ true → published h ≡ published k
  same_published e = let p = is_some-of (published k) e in published_more p.0 p.1 ∙ sym p.1

  -- an entry of the history stands in its beginning, or after it
  abbrev Where : List Entry → Entry → Type 0
  Where past x = IsMoment k past x ⊎ Begins k past

  place : (past : List Entry) (x : Entry) → IsMoment h past x → Where past x
  place past x m = split k (Knows.rest on) past x m.0 (sym (Knows.whole on) ∙ m.1)

  -- a settled contract is opened no more
  no_opening : (i : ℕ) (o : Opening) (done : Done d a h (Unlock o.key) o.height × (o.key.lock ≡ i)) → is_some (settled k) ≡ true → opened k i ≡ None
      → Where done.0.past done.0.now → ⊥
  no_opening i o done e q (inl m) =
      let there = opened-now k done.0.past done.0.now o.key m done.0.took in
      false≢true (ap is_some (sym q) ∙ (ap (is_open k) (sym done.1) ∙ there))
  no_opening i o done e q (inr b) =
      let s = is_some-of (settled k) e in
      let u = of_unlock d a done.0.past done.0.act.by o.key done.0.clear in
      let past_settled : settled done.0.past ≡ Some s.0 = ap settled b.1 ∙ first_given_answer-front (λ x. settling (accepted x)) k b.0 s.0 s.1 in
      false≢true (ap is_some (sym u.unsettled) ∙ ap is_some past_settled)

  settled_by : (i : ℕ) → is_some (settled k) ≡ true → (o : Option Opening) → opened k i ≡ o → (p : Option Opening) → opened h i ≡ p → opened h i ≡ opened k i
  settled_by i e (Some o) q p r = opened-more k h i o begins q ∙ sym q
  settled_by i e None q None r = r ∙ sym q
  settled_by i e None q (Some o) r =
      let done = opened_done d a h i o lh r in absurd (no_opening i o done e q (place done.0.past done.0.now done.0.stands))

  pub settled_same : (i : ℕ) → is_some (settled k) ≡ true → opened h i ≡ opened k i
  settled_same i e = settled_by i e (opened k i) refl (opened h i) refl

  -- who publishes on an arc that leaves v is v, so nobody does
  pub unpublished : party d a ≡ v → is_none (published k) ≡ true → published h ≡ None
  unpublished of_v e = go (published h) refl
    where
      go : (o : Option Publication) → published h ≡ o → published h ≡ None
      go None q = q
      go (Some p) q =
          let done = published_done d a h p lh q in
          let c = of_publish d a done.past done.act.by p.terms done.clear in
          let made = pick_call-act d a done.past done.now (Publish p.terms) v done.act (c.party ∙ of_v) in
          let m = own_known v k h done.past done.now (Publish p.terms) on done.stands made in
          let there : is_some (published k) ≡ true =
          first_given_answer-now (λ x. publication x.height (accepted x)) k done.past done.now (record { height = done.now.height; terms = p.terms }) m
          (ap (publication done.now.height) done.took) in
          absurd (some_none (published k) e there)

  -- nor is a contract opened that wasn't published
  pub unopened : (i : ℕ) → published h ≡ None → opened h i ≡ None
  unopened i e = go (opened h i) refl
    where
      go : (o : Option Opening) → opened h i ≡ o → opened h i ≡ None
      go None q = q
      go (Some o) q =
          let done = opened_done d a h i o lh q in
          let u = of_unlock d a done.0.past done.0.act.by o.key done.0.clear in
          let p = published-past h done.0.past done.0.now u.contract done.0.stands u.published in
          absurd (false≢true (ap is_some (sym e) ∙ ap is_some p))

  -- v opened no lock of a contract that wasn't published before
  pub not_opened : counterparty d a ≡ v → (i : ℕ) → is_none (published k) ≡ true → is_open h i ≡ false
  not_opened of_v i e = go (opened h i) refl
    where
      go : (o : Option Opening) → opened h i ≡ o → is_open h i ≡ false
      go None q = ap is_some q
      go (Some o) q =
          let done = opened_done d a h i o lh q in
          let u = of_unlock d a done.0.past done.0.act.by o.key done.0.clear in
          let made = pick_call-act d a done.0.past done.0.now (Unlock o.key) v done.0.act (u.counterparty ∙ of_v) in
          let m = own_known v k h done.0.past done.0.now (Unlock o.key) on done.0.stands made in
          absurd (some_none (published k) e (ap is_some (published-past k done.0.past done.0.now u.contract m u.published)))

-- The arcs of a party.
module _ (d : Deal) (v : ℕ) (at : ℕ → ℕ) (w : Wallet) (kept : ℕ → Option Hashkey) (k h : Histories) (acc : IsAccepted d) (lk : IsLegalBook d k) (lh : IsLegalBook d h)
    (fin : are_finished d k v ≡ true) (on : ContinuesWithoutParty v k h) where
  abbrev fins : (list_all (is_arc_finished d k) (leaving d.graph v) ≡ true) × (list_all (is_arc_finished d k) (entering d.graph v) ≡ true)
  fins = and_parts (list_all (is_arc_finished d k) (leaving d.graph v)) (list_all (is_arc_finished d k) (entering d.graph v)) fin

  -- why an arc is finished
  pub data Why (a : ℕ) : Type 0 where
    IsSettled : is_some (settled (history k a)) ≡ true → Why a
    IsShut : is_none (published (history k a)) ≡ true → times.opening_deadline d.start d.delta d.bound < height (history k a) → Why a

  why : (a : ℕ) → is_arc_finished d k a ≡ true → Why a
  why a e = go (is_some (settled (history k a))) refl e
    where
      go : (b : Bool) → is_some (settled (history k a)) ≡ b → (b || is_shut d k a) ≡ true → Why a
      go true q e = IsSettled q
      go false q e =
          let p =
          and_three (is_none (published (history k a))) (nat_lt (times.opening_deadline d.start d.delta d.bound) (height (history k a)))
          (nat_lt (greatest_expiry d a) (height (history k a))) e in
          IsShut p.0 (ltb-true (times.opening_deadline d.start d.delta d.bound) (height (history k a)) p.1)

  why_leaving : (a : ℕ) → IsElement a (leaving d.graph v) → Why a
  why_leaving a i = why a (list_all-in (is_arc_finished d k) (leaving d.graph v) a fins.0 i)

  why_entering : (a : ℕ) → IsElement a (entering d.graph v) → Why a
  why_entering a i = why a (list_all-in (is_arc_finished d k) (entering d.graph v) a fins.1 i)

  legal_k : (a : ℕ) → a < length d.graph.arcs → IsLegal d a (history k a)
  legal_k a l = lk.legal a (rw lk.one_each l)

  legal_h : (a : ℕ) → a < length d.graph.arcs → IsLegal d a (history h a)
  legal_h a l = lh.legal a (rw lh.one_each l)

  settled_there : (a : ℕ) → a < length d.graph.arcs → is_some (settled (history k a)) ≡ true → is_some (published (history k a)) ≡ true
  settled_there a l e = let s = is_some-of (settled (history k a)) e in settled_published d a (history k a) s.0 (legal_k a l) s.1

  -- v was ready, if it is
  abbrev good_by : ℕ → Option Publication → Bool
  good_by a o = is_arc_correct d a o && nat_le (publication_height o) (times.opening_deadline d.start d.delta d.bound)

  published_late : (a : ℕ) (p : Publication) (done : Done d a (history h a) (Publish p.terms) p.height) → good_by a (Some p) ≡ true
      → is_none (published (history k a)) ≡ true → times.opening_deadline d.start d.delta d.bound < height (history k a)
      → IsMoment (history k a) done.past done.now ⊎ Begins (history k a) done.past → ⊥
  published_late a p done g none high (inl m) =
      some_none (published (history k a)) none
      (first_given_answer-now (λ x. publication x.height (accepted x)) (history k a) done.past done.now (record { height = done.now.height; terms = p.terms }) m
      (ap (publication done.now.height) done.took))
  published_late a p done g none high (inr b) =
      let l =
      leb-true p.height (times.opening_deadline d.start d.delta d.bound)
      (and_parts (is_arc_correct d a (Some p)) (nat_le p.height (times.opening_deadline d.start d.delta d.bound)) g).1 in
      let up = begins_height (history k a) done.past b in
      let at = done.at in
      omega (arith, l, up, at, high)

  late : (a : ℕ) → a < length d.graph.arcs → (o : Option Publication) → published (history h a) ≡ o → good_by a o ≡ true
      → is_none (published (history k a)) ≡ true → times.opening_deadline d.start d.delta d.bound < height (history k a) → ⊥
  late a below None q g none high = false≢true g
  late a below (Some p) q g none high =
      let done = published_done d a (history h a) p (legal_h a below) q in
      published_late a p done g none high
      (place d v a (history k a) (history h a) (legal_k a below) (legal_h a below) (on a) done.past done.now done.stands)

  as_published : (a : ℕ) → a < length d.graph.arcs → is_good d h a ≡ true → is_some (published (history k a)) ≡ true → is_good d k a ≡ true
  as_published a below e s =
      let same = same_published d v a (history k a) (history h a) (legal_k a below) (legal_h a below) (on a) s in ap (good_by a) (sym same) ∙ e

  good_why : (a : ℕ) → a < length d.graph.arcs → is_good d h a ≡ true → Why a → is_good d k a ≡ true
  good_why a below e (IsSettled s) = as_published a below e (settled_there a below s)
  good_why a below e (IsShut none high) = absurd (late a below (published (history h a)) refl e none high)

  good_before : (a : ℕ) → IsElement a (entering d.graph v) → is_good d h a ≡ true → is_good d k a ≡ true
  good_before a j e = good_why a (enters d v a j).0 e (why_entering a j)

  ready_before : is_ready d h v ≡ true → is_ready d k v ≡ true
  unfolding is_ready
  ready_before e = list_all-from (is_good d k) (entering d.graph v) (λ a j. good_before a j (list_all-in (is_good d h) (entering d.graph v) a e j))

  -- Kind by kind.

  settled_unpublished : (a : ℕ) → IsElement a (leaving d.graph v) → is_due_publish d v h a ≡ true → is_some (settled (history k a)) ≡ true → ⊥
  unfolding is_due_publish
  settled_unpublished a j due e =
      let of_v = leaves d v a j in
      let p = is_some-of (published (history k a)) (settled_there a of_v.0 e) in
      let done = published_done d a (history k a) p.0 (legal_k a of_v.0) p.1 in
      let c = of_publish d a done.past done.act.by p.0.terms done.clear in
      let made = pick_call-act d a done.past done.now (Publish p.0.terms) v done.act (c.party ∙ of_v.1) in
      let called : has_called v is_publish (history k a) ≡ true =
      list_any-in (λ e. is_publish (pick_call v e)) (history k a) done.now (ap is_publish made)
      (subst (IsElement done.now) (sym done.stands.1) (in_from_moment done.past done.now done.stands.0)) in
      let later = called_more d v a (history k a) (history h a) (legal_k a of_v.0) (legal_h a of_v.0) (on a) is_publish called in
      let uncalled =
      not-true-of (has_called v is_publish (history h a))
      (and_parts (leads_one d v || is_ready d h v) (not (has_called v is_publish (history h a))) due).1 in
      false≢true (sym uncalled ∙ later)

  -- a publish on an arc that is shut was due before
  publish_why : (a : ℕ) → IsElement a (leaving d.graph v) → is_due_publish d v h a ≡ true → Why a → is_due_publish d v k a ≡ true
  unfolding is_due_publish
  publish_why a j due (IsSettled e) = absurd (settled_unpublished a j due e)
  publish_why a j due (IsShut none high) =
      let of_v = leaves d v a j in
      let p = and_parts (leads_one d v || is_ready d h v) (not (has_called v is_publish (history h a))) due in
      and_both (leads_one d v || is_ready d k v) (not (has_called v is_publish (history k a))) (either (leads_one d v) p.0)
      (uncalled_before d v a (history k a) (history h a) (legal_k a of_v.0) (legal_h a of_v.0) (on a) is_publish p.1)
    where
      either : (b : Bool) → (b || is_ready d h v) ≡ true → (b || is_ready d k v) ≡ true
      either true e = refl
      either false e = ready_before e

  publish_before : (x : Action) → IsElement x (useful_publishes d v at h) → IsElement x (useful_publishes d v at k)
  publish_before x i =
      let test = λ (b : Histories) (c : ℕ). is_due_publish d v b c && opens_in_time d at c in
      let f = from_flat_map (λ c. when_due (test h c) c (Publish (stated_terms d c))) (leaving d.graph v) x i in
      let p = and_parts (is_due_publish d v h f.0) (opens_in_time d at f.0) (in_when (test h f.0) f.0 (Publish (stated_terms d f.0)) x f.2).0 in
      in_flat_map (λ c. when_due (test k c) c (Publish (stated_terms d c))) (leaving d.graph v) f.0 x f.1
      (to_when (test h f.0) (test k f.0) f.0 (Publish (stated_terms d f.0)) x
      (and_both (is_due_publish d v k f.0) (opens_in_time d at f.0) (publish_why f.0 f.1 p.0 (why_leaving f.0 f.1)) p.1) f.2)

  no_refund_by : (a : ℕ) → IsElement a (leaving d.graph v) → is_some (published (history h a)) ≡ true → is_none (settled (history h a)) ≡ true → Why a → ⊥
  no_refund_by a j there free (IsShut none high) =
      let of_v = leaves d v a j in
      let n = unpublished d v a (history k a) (history h a) (legal_k a of_v.0) (legal_h a of_v.0) (on a) of_v.1 none in
      false≢true (ap is_some (sym n) ∙ there)
  no_refund_by a j there free (IsSettled e) =
      let of_v = leaves d v a j in
      let s = is_some-of (settled (history k a)) e in
      let later = settled_more d v a (history k a) (history h a) (legal_k a of_v.0) (legal_h a of_v.0) (on a) s.0 s.1 in
      false≢true (ap is_none (sym later) ∙ free)

  no_refund_why : (a : ℕ) → IsElement a (leaving d.graph v) → is_due_refund d v h a ≡ true → Why a → ⊥
  unfolding is_due_refund
  no_refund_why a j due why =
      let tests =
      and_five (is_some (published (history h a))) (is_none (settled (history h a))) (not (is_triggered d h a))
      (has_expired d a (history h a) (height (history h a))) (not (has_called v is_refunding (history h a))) due in
      no_refund_by a j tests.0 tests.1 why

  no_refund : (x : Action) → IsElement x (due_refunds d v h) → ⊥
  no_refund x i =
      let f = from_flat_map (λ a. when_due (is_due_refund d v h a) a Refund) (leaving d.graph v) x i in
      no_refund_why f.0 f.1 (in_when (is_due_refund d v h f.0) f.0 Refund x f.2).0 (why_leaving f.0 f.1)

  first_lock : IsElement 0 (locks d)
  first_lock = let few = acc.leaders.0 in in_range 0 (length d.leaders) (omega (arith, few))

  triggered_before : (a : ℕ) → a < length d.graph.arcs → is_some (settled (history k a)) ≡ true → is_triggered d h a ≡ true → is_triggered d k a ≡ true
  triggered_before a below e t =
      list_all-from (is_open (history k a)) (locks d) (λ j l.
      ap is_some (sym (settled_same d v a (history k a) (history h a) (legal_k a below) (legal_h a below) (on a) j e))
      ∙ list_all-in (is_open (history h a)) (locks d) j t l)

  claim_why : (a : ℕ) → IsElement a (entering d.graph v) → is_due_claim d v h a ≡ true → Why a → is_due_claim d v k a ≡ true
  unfolding is_due_claim
  claim_why a j due (IsShut none high) =
      let of_v = enters d v a j in
      let tests = and_three (is_correct d h a) (is_triggered d h a) (not (has_called v is_claiming (history h a))) due in
      let closed = not_opened d v a (history k a) (history h a) (legal_k a of_v.0) (legal_h a of_v.0) (on a) of_v.1 0 none in
      absurd (false≢true (sym closed ∙ list_all-in (is_open (history h a)) (locks d) 0 tests.1 first_lock))
  claim_why a j due (IsSettled e) =
      let of_v = enters d v a j in
      let tests = and_three (is_correct d h a) (is_triggered d h a) (not (has_called v is_claiming (history h a))) due in
      let same = same_published d v a (history k a) (history h a) (legal_k a of_v.0) (legal_h a of_v.0) (on a) (settled_there a of_v.0 e) in
      let unclaimed = uncalled_before d v a (history k a) (history h a) (legal_k a of_v.0) (legal_h a of_v.0) (on a) is_claiming tests.2 in
      and_both (is_correct d k a && is_triggered d k a) (not (has_called v is_claiming (history k a)))
      (and_both (is_correct d k a) (is_triggered d k a) (ap (is_arc_correct d a) (sym same) ∙ tests.0) (triggered_before a of_v.0 e tests.1)) unclaimed

  claim_before : (x : Action) → IsElement x (due_claims d v h) → IsElement x (due_claims d v k)
  claim_before x i =
      let f = from_flat_map (λ a. when_due (is_due_claim d v h a) a Claim) (entering d.graph v) x i in
      let test = claim_why f.0 f.1 (in_when (is_due_claim d v h f.0) f.0 Claim x f.2).0 (why_entering f.0 f.1) in
      in_flat_map (λ a. when_due (is_due_claim d v k a) a Claim) (entering d.graph v) f.0 x f.1
      (to_when (is_due_claim d v h f.0) (is_due_claim d v k f.0) f.0 Claim x test f.2)

  -- an arc that is finished takes no unlock that v hasn't called
  called_open : (a i : ℕ) → IsElement a (entering d.graph v) → (o : Option Opening) → opened (history h a) i ≡ o → is_some o ≡ true
      → has_called v (unlocks_lock i) (history h a) ≡ true
  called_open a i j None e t = absurd (false≢true t)
  called_open a i j (Some o) e t =
      let of_v = enters d v a j in
      let done = opened_done d a (history h a) i o (legal_h a of_v.0) e in
      let u = of_unlock d a done.0.past done.0.act.by o.key done.0.clear in
      let made = pick_call-act d a done.0.past done.0.now (Unlock o.key) v done.0.act (u.counterparty ∙ of_v.1) in
      list_any-in (λ y. unlocks_lock i (pick_call v y)) (history h a) done.0.now (ap (unlocks_lock i) made ∙ eq-eqb o.key.lock i done.1)
      (subst (IsElement done.0.now) (sym done.0.stands.1) (in_from_moment done.0.past done.0.now done.0.stands.0))

  no_unlock_why : (a i : ℕ) (key : Hashkey) → IsElement a (entering d.graph v) → is_ready d h v ≡ true
      → not (has_called v (unlocks_lock i) (history h a)) ≡ true → takes d at h i (Some key) a ≡ true → Why a → ⊥
  no_unlock_why a i key j ready none taken (IsShut empty high) =
      late a (enters d v a j).0 (published (history h a)) refl (ready_good d h v a ready j) empty high
  no_unlock_why a i key j ready none taken (IsSettled e) = go (is_open (history h a) i) refl
    where
      go : (b : Bool) → is_open (history h a) i ≡ b → ⊥
      go true q =
          false≢true (sym (not-true-of (has_called v (unlocks_lock i) (history h a)) none) ∙ called_open a i j (opened (history h a) i) refl q)
      go false q =
          let of_v = enters d v a j in
          let s = is_some-of (settled (history k a)) e in
          let later = settled_more d v a (history k a) (history h a) (legal_k a of_v.0) (legal_h a of_v.0) (on a) s.0 s.1 in
          let open_for : accepts d at h (Some key) a ≡ true = ap (λ b. b || accepts d at h (Some key) a) (sym q) ∙ taken in
          false≢true (sym (ap is_none later)
          ∙ (and_parts (is_none (settled (history h a))) (nat_le (at a) (last_unlock d.mode (stated_terms d a) key)) open_for).0)

  no_unlock : (x : Action) → IsElement x (useful_unlocks d v at w kept h) → ⊥
  no_unlock x i =
      let u = unlocked d v at w kept h x i in
      let may = and_parts (is_ready d h v) (not (has_called v (unlocks_lock u.lock) (history h u.arc))) u.may in
      no_unlock_why u.arc u.lock u.key u.enters may.0 may.1 (subst (λ o. takes d at h u.lock o u.arc ≡ true) u.due u.taken) (why_entering u.arc u.enters)

  pub by_kind : (x : Action) → Kind d v at w kept h x → IsElement x (useful d v at w kept k)
  by_kind x (InPublishes i) = is_useful d v at w kept k x (InPublishes (publish_before x i))
  by_kind x (InUnlocks i) = absurd (no_unlock x i)
  by_kind x (InClaims i) = is_useful d v at w kept k x (InClaims (claim_before x i))
  by_kind x (InRefunds i) = absurd (no_refund x i)

pub finished_stays : FinishedStays
finished_stays d v at later w kept k h x acc lk lh fin on up i =
    by_kind d v at w kept k h acc lk lh fin on x (kind d v at w kept h x (higher_is_less d v at later w kept h x up i))
