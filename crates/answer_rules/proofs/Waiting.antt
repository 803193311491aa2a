-- Where nothing is left of what is useful, ticks leave nothing.
use Rattle.std.proofs.Common.{◌≡◌, ℕ, ◌≤◌, Bool, true, false, not, ◌&&◌, List, [], ◌++◌, set, Option, refl, sym, ap, ◌∙◌, subst, arith}
use Rattle.std.proofs.Common.{suc, zero, nat_le, cond, ◌||◌, ◌∷◌, Some, None, is_none, is_some, ltb-true, lt-ltb}
use Rattle.std.proofs.lemmas.Bool.{false≢true}
use Rattle.swap_base.specs.Lists.{IsElement, or_else, first_given_answer}
use Rattle.swap_base.proofs.Lists.{from_filter, in_filter, and_parts, and_both, first_given_answer-append}
use Rattle.swap_base.proofs.Lists.{list_any-in}
use Rattle.swap_digraph.specs.declared.deal.Deal.{Deal}
use Rattle.swap_digraph.specs.Graph.{leaving, entering}
use Rattle.hashkey_path.specs.declared.hashkey.Hashkey.{Hashkey}
use Rattle.escrow_core.specs.Terms.{stated_terms, last_unlock}
use Rattle.ledger_core.specs.declared.entry.Call.TheVariants.{Publish, Refund}
use Rattle.ledger_core.specs.declared.entry.Entry.{Entry}
use Rattle.ledger_core.specs.History.{height, settled, is_open, opened}
use Rattle.ledger_core.specs.Book.{Histories, history}
use Rattle.swap_rules.specs.Due.{Wallet, Action, is_due_refund, when_due, due_claims, due_refunds, due_key, seen_key}
use Rattle.swap_rules.specs.Due.{extended}
use Rattle.swap_rules.specs.Rest.{are_ticks, StaysLow, is_ticking}
use Rattle.swap_rules.specs.Useful.{opens_in_time, useful_publishes, useful_unlocks, useful, is_past, is_missed, has_missed, accepts, takes, has_lost}
use Rattle.swap_rules.specs.Useful.{is_withheld}
use Rattle.swap_rules.proofs.Prefixes.{from_flat_map, begins_height, in_any}
use Rattle.swap_rules.proofs.Rest.{reads, grows_on, same_publish, same_unlock, same_claims, none_refunded, not_called, first_past, ReadsSame}
use Rattle.answer_rules.specs.Stopped.{is_stopped_call, unstopped}
use Rattle.answer_rules.specs.Laws.{TicksLeaveNothing}
use Rattle.answer_rules.proofs.UsefulKinds.{nothing_in, in_when, Kind, InPublishes, InUnlocks, InClaims, InRefunds, kind, is_useful}
use Rattle.answer_rules.proofs.UsefulKinds.{unlocked, in_due_unlocks}
use Rattle.std.specs.List.{list_any, list_all, flat_map}
use Rattle.swap_digraph.specs.Deal.{locks, leads}
use Rattle.escrow_core.specs.Table.{are_open}
use Rattle.swap_rules.specs.Party.{pick_call, unlock_hashkey, first_key, key_without_party}
use Rattle.swap_rules.proofs.Useful.{higher_is_less}

and_more : (p q r : Bool) → (q ≡ true → r ≡ true) → (p && q) ≡ true → (p && r) ≡ true
and_more true q r h e = h e
and_more false q r h e = absurd (false≢true e)

-- Over ticks.

ticking_key : (v i : ℕ) (e : Entry) → is_ticking e.what ≡ true → unlock_hashkey i (pick_call v e) ≡ None
ticking_key v i e t = ap (unlock_hashkey i) (not_called v e t)

first_in_book : (f : Entry → Option Hashkey) → ((e : Entry) → is_ticking e.what ≡ true → f e ≡ None) → (k : Histories) (a : ℕ) (more : List Entry)
    → are_ticks more ≡ true → first_given_answer f (flat_map (λ h. h) (set k a (history k a ++ more))) ≡ first_given_answer f (flat_map (λ h. h) k)
first_in_book f n [] a more t = refl
first_in_book f n (h ∷ k) zero more t =
    first_given_answer-append f (h ++ more) (flat_map (λ h. h) k)
    ∙ (ap (λ o. or_else o (first_given_answer f (flat_map (λ h. h) k))) (first_past f n h more t) ∙ sym (first_given_answer-append f h (flat_map (λ h. h) k)))
first_in_book f n (h ∷ k) (suc a) more t =
    first_given_answer-append f h (flat_map (λ h. h) (set k a (history k a ++ more)))
    ∙ (ap (or_else (first_given_answer f h)) (first_in_book f n k a more t) ∙ sym (first_given_answer-append f h (flat_map (λ h. h) k)))

module _ (d : Deal) (v : ℕ) (at : ℕ → ℕ) (w : Wallet) (kept : ℕ → Option Hashkey) (k : Histories) (a : ℕ) (more : List Entry) (ticks : are_ticks more ≡ true) where
  abbrev onward : Histories
  onward = set k a (history k a ++ more)

  same : (c : ℕ) → ReadsSame v (history k c) (history onward c)
  same c = reads d v w kept k a more ticks c

  same_open : (c i : ℕ) → opened (history onward c) i ≡ opened (history k c) i
  same_open c i = let s = same c in s.open_at i

  same_settled : (c : ℕ) → settled (history onward c) ≡ settled (history k c)
  same_settled c = let s = same c in s.settle

  same_first : (i : ℕ) → first_key onward v i ≡ first_key k v i
  unfolding first_key
  same_first i = first_in_book (λ e. unlock_hashkey i (pick_call v e)) (ticking_key v i) k a more ticks

  same_lost : has_lost d onward v ≡ has_lost d k v
  same_lost = λ j. list_any (λ c. are_open d (λ i. is_some (same_open c i j))) (leaving d.graph v)

  same_due_key : (s : Option Hashkey) (i : ℕ) → due_key d v w s onward i ≡ due_key d v w s k i
  unfolding due_key seen_key
  same_due_key s i =
      λ j. or_else s (cond (leads d v i) (Some (w.first i))
      (extended w (first_given_answer (λ c. key_without_party v (same_open c i j)) (leaving d.graph v))))

  same_accepts : (o : Option Hashkey) (c : ℕ) → accepts d at onward o c ≡ accepts d at k o c
  same_accepts None c = refl
  same_accepts (Some key) c = λ j. is_none (same_settled c j) && nat_le (at c) (last_unlock d.mode (stated_terms d c) key)

  same_takes : (i : ℕ) (o : Option Hashkey) (c : ℕ) → takes d at onward i o c ≡ takes d at k i o c
  same_takes i o c = λ j. is_some (same_open c i j) || same_accepts o c j

  higher_now : (c : ℕ) → height (history k c) ≤ height (history onward c)
  higher_now c = begins_height (history k c) (history onward c) (grows_on d v w kept k a more ticks c)

  past_rises : (c n m : ℕ) (o : Option Hashkey) → n ≤ m → is_past d c o n ≡ true → is_past d c o m ≡ true
  past_rises c n m None l e = e
  past_rises c n m (Some key) l e = let h = ltb-true (last_unlock d.mode (stated_terms d c) key) n e in lt-ltb (last_unlock d.mode (stated_terms d c) key) m (omega arith)

  missed_rises : (c l : ℕ) → is_missed d k kept c l ≡ true → is_missed d onward kept c l ≡ true
  missed_rises c l e =
      let p = and_parts (not (is_open (history k c) l)) (is_past d c (kept l) (height (history k c))) e in
      and_both (not (is_open (history onward c) l)) (is_past d c (kept l) (height (history onward c)))
      (ap (λ x. not (is_some x)) (same_open c l) ∙ p.0) (past_rises c (height (history k c)) (height (history onward c)) (kept l) (higher_now c) p.1)

  any_more : {A : Type 0} (p q : A → Bool) (xs : List A) → ((x : A) → p x ≡ true → q x ≡ true) → list_any p xs ≡ true → list_any q xs ≡ true
  any_more p q xs h e = let y = in_any p xs e in list_any-in q xs y.0 (h y.0 y.2) y.1

  all_missed_rise : has_missed d v kept k ≡ true → has_missed d v kept onward ≡ true
  all_missed_rise =
      any_more (λ c. list_any (is_missed d k kept c) (locks d)) (λ c. list_any (is_missed d onward kept c) (locks d)) (entering d.graph v)
      (λ c. any_more (is_missed d k kept c) (is_missed d onward kept c) (locks d) (missed_rises c))

  or_less : (p q r : Bool) → (p ≡ true → q ≡ true) → (p || r) ≡ true → (q || r) ≡ true
  or_less true q r h e = ap (λ x. x || r) (h refl)
  or_less false true r h e = refl
  or_less false false r h e = e

  held_on : (i : ℕ) (o : Option Hashkey) → is_withheld d v at kept k i o ≡ true → is_withheld d v at kept onward i o ≡ true
  held_on i o e =
      let same : (is_none (first_key k v i) && not (has_lost d k v)
      && (has_missed d v kept onward || not (list_all (takes d at k i o) (entering d.graph v)))) ≡ is_withheld d v at kept onward i o =
      sym (λ j. is_none (same_first i j) && not (same_lost j) && (has_missed d v kept onward || not (list_all (λ c. same_takes i o c j) (entering d.graph v)))) in
      sym same ∙ and_more (is_none (first_key k v i) && not (has_lost d k v)) (has_missed d v kept k || not (list_all (takes d at k i o) (entering d.graph v)))
      (has_missed d v kept onward || not (list_all (takes d at k i o) (entering d.graph v)))
      (or_less (has_missed d v kept k) (has_missed d v kept onward) (not (list_all (takes d at k i o) (entering d.graph v))) all_missed_rise) e

  -- a lock that is free was free before
  free_before : (i : ℕ) (o : Option Hashkey) → is_withheld d v at kept onward i o ≡ false → is_withheld d v at kept k i o ≡ false
  free_before i o e = go (is_withheld d v at kept k i o) refl
    where
      go : (b : Bool) → is_withheld d v at kept k i o ≡ b → is_withheld d v at kept k i o ≡ false
      go false q = q
      go true q = absurd (false≢true (sym e ∙ held_on i o q))

module _ (d : Deal) (v : ℕ) (at : ℕ → ℕ) (w : Wallet) (kept : ℕ → Option Hashkey) (stops : ℕ → Bool) (k : Histories) (a : ℕ) (more : List Entry)
    (ticks : are_ticks more ≡ true) (none : unstopped stops (useful d v at w kept k) ≡ []) (low : StaysLow d v k a more) where
  abbrev after : Histories
  after = set k a (history k a ++ more)

  -- what was useful is stopped
  stopped : (x : Action) → is_stopped_call stops x.call ≡ false → IsElement x (useful d v at w kept k) → ⊥
  stopped x free i =
      let j : IsElement x (unstopped stops (useful d v at w kept k)) =
      in_filter (λ y. not (is_stopped_call stops y.call)) x (useful d v at w kept k) i (ap not free) in
      subst (IsElement x) none j

  same_useful_publishes : useful_publishes d v at after ≡ useful_publishes d v at k
  same_useful_publishes =
      λ j. flat_map (λ c. when_due (same_publish d v k after (reads d v w kept k a more ticks) c j && opens_in_time d at c) c (Publish (stated_terms d c)))
      (leaving d.graph v)

  publishes : (x : Action) → IsElement x (useful_publishes d v at after) → IsElement x (useful_publishes d v at k)
  publishes x i = subst (IsElement x) same_useful_publishes i

  unlocks : (x : Action) → IsElement x (useful_unlocks d v at w kept after) → IsElement x (useful_unlocks d v at w kept k)
  unlocks x i =
      let u = unlocked d v at w kept after x i in
      let same = same_unlock d v k after (reads d v w kept k a more ticks) w (kept u.lock) u.lock u.arc in
      let key = same_due_key d v at w kept k a more ticks (kept u.lock) u.lock in
      let taken = subst (λ o. takes d at after u.lock o u.arc ≡ true) key u.taken in
      let free = subst (λ o. is_withheld d v at kept after u.lock o ≡ false) key u.free in
      in_due_unlocks d v at w kept k x u.lock u.arc u.within u.enters
      (free_before d v at w kept k a more ticks u.lock (due_key d v w (kept u.lock) k u.lock) free)
      (sym (same_takes d v at w kept k a more ticks u.lock (due_key d v w (kept u.lock) k u.lock) u.arc) ∙ taken) (subst (IsElement x) same u.here)

  claims : (x : Action) → IsElement x (due_claims d v after) → IsElement x (due_claims d v k)
  claims x i = subst (IsElement x) (same_claims d v k after (reads d v w kept k a more ticks)) i

  refund_free : (x : Action) (b : Histories) → IsElement x (due_refunds d v b) → is_stopped_call stops x.call ≡ false
  refund_free x b i =
      let f = from_flat_map (λ c. when_due (is_due_refund d v b c) c Refund) (leaving d.graph v) x i in
      ap (is_stopped_call stops) (in_when (is_due_refund d v b f.0) f.0 Refund x f.2).1

  no_refunds : due_refunds d v k ≡ []
  no_refunds = nothing_in (due_refunds d v k) (λ x i. stopped x (refund_free x k i) (is_useful d v at w kept k x (InRefunds i)))

  by_kind : (x : Action) → is_stopped_call stops x.call ≡ false → Kind d v at w kept after x → ⊥
  by_kind x free (InPublishes i) = stopped x free (is_useful d v at w kept k x (InPublishes (publishes x i)))
  by_kind x free (InUnlocks i) = stopped x free (is_useful d v at w kept k x (InUnlocks (unlocks x i)))
  by_kind x free (InClaims i) = stopped x free (is_useful d v at w kept k x (InClaims (claims x i)))
  by_kind x free (InRefunds i) = subst (IsElement x) (none_refunded d v w kept k a more ticks no_refunds low) i

  pub nothing_left : unstopped stops (useful d v at w kept after) ≡ []
  nothing_left = nothing_in (unstopped stops (useful d v at w kept after)) (λ x i.
      let f = from_filter (λ y. not (is_stopped_call stops y.call)) x (useful d v at w kept after) i in
      by_kind x (not_stopped (is_stopped_call stops x.call) f.1) (kind d v at w kept after x f.0))
    where
      not_stopped : (b : Bool) → not b ≡ true → b ≡ false
      not_stopped true e = absurd (false≢true e)
      not_stopped false e = refl

pub ticks_leave_nothing : TicksLeaveNothing
ticks_leave_nothing d v at later w kept stops k a more ticks up none low =
    nothing_left d v later w kept stops k a more ticks
    (nothing_in (unstopped stops (useful d v later w kept k)) (λ x i.
    let f = from_filter (λ y. not (is_stopped_call stops y.call)) x (useful d v later w kept k) i in
    subst (IsElement x) none (in_filter (λ y. not (is_stopped_call stops y.call)) x (useful d v at w kept k) (higher_is_less d v at later w kept k x up f.0) f.1)))
    low
