-- What is useful is due, what is left out can only hurt, and neither ticks nor higher landings make
-- anything useful.
use Rattle.std.proofs.Common.{◌≡◌, ◌⊎◌, ℕ, suc, zero, ◌≤◌, nat_le, Bool, true, false, cond, not, ◌&&◌, ◌||◌, List, [], ◌∷◌, ◌++◌}
use Rattle.std.proofs.Common.{set, Option, Some, None, is_none, is_some, refl, sym, ap, ◌∙◌, inl, inr, arith, leb-true, le-leb}
use Rattle.std.specs.List.{list_any, list_all, flat_map}
use Rattle.std.proofs.lemmas.Bool.{false≢true}
use Rattle.swap_base.specs.Lists.{or_else, first_given_answer, IsElement}
use Rattle.swap_base.proofs.Lists.{first_given_answer-append, from_append, in_append, in_flat_map, list_all-in, list_all-from}
use Rattle.swap_digraph.specs.declared.deal.Deal.{Deal}
use Rattle.swap_digraph.specs.Graph.{leaving, entering}
use Rattle.swap_digraph.specs.Deal.{locks, leads}
use Rattle.hashkey_path.specs.declared.hashkey.Hashkey.{Hashkey}
use Rattle.escrow_core.specs.Terms.{stated_terms, last_unlock}
use Rattle.escrow_core.specs.Table.{are_open}
use Rattle.ledger_core.specs.declared.entry.Call.{Call}
use Rattle.ledger_core.specs.declared.entry.Call.TheVariants.{Publish, Unlock, Claim, Refund, Transfer}
use Rattle.ledger_core.specs.declared.entry.Entry.{Entry}
use Rattle.ledger_core.specs.History.{settled, is_open, opened}
use Rattle.ledger_core.specs.Book.{Histories, history}
use Rattle.swap_rules.specs.Party.{pick_call, unlock_hashkey, first_key, key_without_party}
use Rattle.swap_rules.specs.Due.{Wallet, Action, is_due_publish, due_key, seen_key, extended, due_arc_unlock, when_due, due_publishes, due_unlocks}
use Rattle.swap_rules.specs.Due.{due_claims, due_refunds, due, unlocks_lock, has_called}
use Rattle.swap_rules.specs.Rest.{is_ticking, are_ticks, StaysLow}
use Rattle.swap_rules.proofs.Prefixes.{from_flat_map}
use Rattle.swap_rules.proofs.Words.{append_empty}
use Rattle.swap_rules.proofs.Rest.{not_called, first_past, ReadsSame, reads, same_publish, same_unlock, same_claims, none_refunded}
use Rattle.swap_rules.specs.Useful.{is_past, is_missed, has_missed}
use Rattle.swap_rules.specs.Useful.{opens_in_time, accepts, takes, has_lost, is_withheld, timely_unlock, pressing_unlocks, pressing, useful_publishes}
use Rattle.swap_rules.specs.Useful.{useful_unlocks, useful, IsHarmful, PublishesLate, UnlocksLate, RevealsLate, UsefulIsDue, OnlyHarmIsLeftOut}
use Rattle.swap_rules.specs.Useful.{NothingUsefulPresses, TicksMakeNothingUseful, HigherIsLess, TakenIsUseful}
use Rattle.std.proofs.Common.{ltb-true, lt-ltb, ap₂, ◌==◌}
use Rattle.ledger_core.specs.History.{height}
use Rattle.swap_base.proofs.Lists.{and_parts, and_both}
use Rattle.swap_rules.proofs.Words.{flat_map_none}
use Rattle.swap_base.proofs.Lists.{list_any-in}
use Rattle.swap_rules.proofs.Prefixes.{in_any, begins_height}
use Rattle.swap_rules.proofs.Rest.{grows_on}
use Rattle.time_bounds.specs.Times as times

-- Calls under a further test.

fewer : (p q : Bool) (a : ℕ) (c : Call) (x : Action) → IsElement x (when_due (p && q) a c) → IsElement x (when_due p a c)
fewer true true a c x i = i
fewer true false a c x i = absurd i
fewer false q a c x i = absurd i

kept_or : (p q : Bool) (a : ℕ) (c : Call) (x : Action) → IsElement x (when_due p a c) → IsElement x (when_due (p && q) a c) ⊎ ((q ≡ false) × (x.arc ≡ a) × (x.call ≡ c))
kept_or true true a c x i = inl i
kept_or true false a c x (inl e) = inr (refl, ap (λ y. y.arc) e, ap (λ y. y.call) e)
kept_or true false a c x (inr i) = absurd i
kept_or false q a c x i = absurd i

pub unless_in : (held : Bool) (xs : List Action) (x : Action) → IsElement x (cond held [] xs) → IsElement x xs
unless_in true xs x i = absurd i
unless_in false xs x i = i

pub if_in : (test : Bool) (xs : List Action) (x : Action) → IsElement x (cond test xs []) → IsElement x xs
if_in true xs x i = i
if_in false xs x i = absurd i

-- a call that passed a test passes a weaker one
weaker_due : (p q r : Bool) (a : ℕ) (c : Call) (x : Action) → (q ≡ true → r ≡ true) → IsElement x (when_due (p && q) a c) → IsElement x (when_due (p && r) a c)
weaker_due true true true a c x h i = i
weaker_due true true false a c x h i = absurd (false≢true (h refl))
weaker_due true false r a c x h i = absurd i
weaker_due false q r a c x h i = absurd i

weaker_if : (q r : Bool) (xs : List Action) (x : Action) → (q ≡ true → r ≡ true) → IsElement x (cond q xs []) → IsElement x (cond r xs [])
weaker_if true true xs x h i = i
weaker_if true false xs x h i = absurd (false≢true (h refl))
weaker_if false r xs x h i = absurd i

weaker_unless : (held less : Bool) (xs ys : List Action) (x : Action) → (less ≡ true → held ≡ true) → (IsElement x xs → IsElement x ys)
    → IsElement x (cond held [] xs) → IsElement x (cond less [] ys)
weaker_unless true less xs ys x h f i = absurd i
weaker_unless false false xs ys x h f i = f i
weaker_unless false true xs ys x h f i = absurd (false≢true (h refl))

-- the four parts of a list of calls, part by part
pub record Parts (x : Action) (p u c r : List Action) (P : Type 0) : Type 0 where
  pub publish : IsElement x p → P
  pub unlock : IsElement x u → P
  pub claim : IsElement x c → P
  pub refund : IsElement x r → P

pub by_parts : (x : Action) (p u c r : List Action) (P : Type 0) → Parts x p u c r P → IsElement x (p ++ u ++ c ++ r) → P
by_parts x p u c r P by i = outer (from_append (p ++ u ++ c) r x i)
  where
    inner : IsElement x p ⊎ IsElement x u → P
    inner (inl j) = by.publish j
    inner (inr j) = by.unlock j

    middle : IsElement x (p ++ u) ⊎ IsElement x c → P
    middle (inl j) = inner (from_append p u x j)
    middle (inr j) = by.claim j

    outer : IsElement x (p ++ u ++ c) ⊎ IsElement x r → P
    outer (inl j) = middle (from_append (p ++ u) c x j)
    outer (inr j) = by.refund j

to_parts : (x : Action) (p u c r : List Action) → Parts x p u c r (IsElement x (p ++ u ++ c ++ r))
to_parts x p u c r = record {
  publish = λ j. in_append (p ++ u ++ c) r x (inl (in_append (p ++ u) c x (inl (in_append p u x (inl j)))));
  unlock = λ j. in_append (p ++ u ++ c) r x (inl (in_append (p ++ u) c x (inl (in_append p u x (inr j)))));
  claim = λ j. in_append (p ++ u ++ c) r x (inl (in_append (p ++ u) c x (inr j)));
  refund = λ j. in_append (p ++ u ++ c) r x (inr j);
}

module _ (d : Deal) (v : ℕ) (at : ℕ → ℕ) (w : Wallet) (signed : ℕ → Option Hashkey) (k : Histories) where
  abbrev publish_at : ℕ → List Action
  publish_at a = when_due (is_due_publish d v k a) a (Publish (stated_terms d a))

  abbrev early_at : ℕ → List Action
  early_at a = when_due (is_due_publish d v k a && opens_in_time d at a) a (Publish (stated_terms d a))

  abbrev unlocks_at : ℕ → List Action
  unlocks_at i = flat_map (due_arc_unlock d v w (signed i) k i) (entering d.graph v)

  abbrev timely_at : ℕ → List Action
  timely_at i = flat_map (timely_unlock d v at w (signed i) k i) (entering d.graph v)

  abbrev key_at : ℕ → Option Hashkey
  key_at i = due_key d v w (signed i) k i

  publish_is_due : (x : Action) → IsElement x (useful_publishes d v at k) → IsElement x (due_publishes d v k)
  publish_is_due x i =
      let f = from_flat_map early_at (leaving d.graph v) x i in
      in_flat_map publish_at (leaving d.graph v) f.0 x f.1
      (fewer (is_due_publish d v k f.0) (opens_in_time d at f.0) f.0 (Publish (stated_terms d f.0)) x f.2)

  timely_is_due : (i : ℕ) (x : Action) → IsElement x (timely_at i) → IsElement x (unlocks_at i)
  timely_is_due i x j =
      let f = from_flat_map (timely_unlock d v at w (signed i) k i) (entering d.graph v) x j in
      in_flat_map (due_arc_unlock d v w (signed i) k i) (entering d.graph v) f.0 x f.1
      (if_in (takes d at k i (key_at i) f.0) (due_arc_unlock d v w (signed i) k i f.0) x f.2)

  unlock_is_due : (x : Action) → IsElement x (useful_unlocks d v at w signed k) → IsElement x (due_unlocks d v w signed k)
  unlock_is_due x i =
      let f = from_flat_map (pressing_unlocks d v at w signed k) (locks d) x i in
      in_flat_map unlocks_at (locks d) f.0 x f.1 (timely_is_due f.0 x (unless_in (is_withheld d v at signed k f.0 (key_at f.0)) (timely_at f.0) x f.2))

  pub is_due : (x : Action) → IsElement x (useful d v at w signed k) → IsElement x (due d v w signed k)
  unfolding useful due
  is_due x i =
      let t = to_parts x (due_publishes d v k) (due_unlocks d v w signed k) (due_claims d v k) (due_refunds d v k) in
      by_parts x (useful_publishes d v at k) (useful_unlocks d v at w signed k) (due_claims d v k) (due_refunds d v k) _ (record {
        publish = λ j. t.publish (publish_is_due x j);
        unlock = λ j. t.unlock (unlock_is_due x j);
        claim = t.claim;
        refund = t.refund;
      }) i

  abbrev IsUsefulOrHarms : Action → Type 0
  IsUsefulOrHarms x = IsElement x (useful d v at w signed k) ⊎ IsHarmful d v at w signed k x

  pub left_out : (x : Action) → IsElement x (due d v w signed k) → IsUsefulOrHarms x
  unfolding useful due
  left_out x i =
      by_parts x (due_publishes d v k) (due_unlocks d v w signed k) (due_claims d v k) (due_refunds d v k) _ (record {
        publish = publishes;
        unlock = unlocks;
        claim = λ j. inl (t.claim j);
        refund = λ j. inl (t.refund j);
      }) i
    where
      t : Parts x (useful_publishes d v at k) (useful_unlocks d v at w signed k) (due_claims d v k) (due_refunds d v k) (IsElement x (useful d v at w signed k))
      t = to_parts x (useful_publishes d v at k) (useful_unlocks d v at w signed k) (due_claims d v k) (due_refunds d v k)

      on_arc : (a : ℕ) → IsElement a (leaving d.graph v)
          → IsElement x (early_at a) ⊎ ((opens_in_time d at a ≡ false) × (x.arc ≡ a) × (x.call ≡ Publish (stated_terms d a))) → IsUsefulOrHarms x
      on_arc a j (inl s) = inl (t.publish (in_flat_map early_at (leaving d.graph v) a x j s))
      on_arc a j (inr s) =
          inr (PublishesLate (s.2 ∙ ap (λ c. Publish (stated_terms d c)) (sym s.1)) (ap (opens_in_time d at) s.1 ∙ s.0))

      publishes : IsElement x (due_publishes d v k) → IsUsefulOrHarms x
      publishes j =
          let f = from_flat_map publish_at (leaving d.graph v) x j in
          on_arc f.0 f.1 (kept_or (is_due_publish d v k f.0) (opens_in_time d at f.0) f.0 (Publish (stated_terms d f.0)) x f.2)

      on_lock : (l a : ℕ) → IsElement l (locks d) → IsElement a (entering d.graph v) → IsElement x (due_arc_unlock d v w (signed l) k l a)
          → (y : Bool) → takes d at k l (key_at l) a ≡ y → (z : Bool) → is_withheld d v at signed k l (key_at l) ≡ z → IsUsefulOrHarms x
      on_lock l a j n s false e z f = inr (UnlocksLate l a s e)
      on_lock l a j n s true e true f = inr (RevealsLate l (in_flat_map (due_arc_unlock d v w (signed l) k l) (entering d.graph v) a x n s) f)
      on_lock l a j n s true e false f =
          inl (t.unlock (in_flat_map (pressing_unlocks d v at w signed k) (locks d) l x j (rw f (in_flat_map (timely_unlock d v at w (signed l) k l)
          (entering d.graph v) a x n (rw e s)))))

      unlocks : IsElement x (due_unlocks d v w signed k) → IsUsefulOrHarms x
      unlocks j =
          let f = from_flat_map unlocks_at (locks d) x j in
          let g = from_flat_map (due_arc_unlock d v w (signed f.0) k f.0) (entering d.graph v) x f.2 in
          on_lock f.0 g.0 f.1 g.1 g.2 (takes d at k f.0 (key_at f.0) g.0) refl (is_withheld d v at signed k f.0 (key_at f.0)) refl

  pub taken_useful : (i a : ℕ) (x : Action) → IsElement i (locks d) → IsElement a (entering d.graph v) → IsElement x (due_arc_unlock d v w (signed i) k i a)
      → takes d at k i (key_at i) a ≡ true → (has_lost d k v ≡ true) ⊎ (is_none (first_key k v i) ≡ false) → IsElement x (useful d v at w signed k)
  unfolding useful
  taken_useful i a x l j n e why =
      let t = to_parts x (useful_publishes d v at k) (useful_unlocks d v at w signed k) (due_claims d v k) (due_refunds d v k) in
      t.unlock (in_flat_map (pressing_unlocks d v at w signed k) (locks d) i x l (rw (free why) (in_flat_map (timely_unlock d v at w (signed i) k i)
      (entering d.graph v) a x j (rw e n))))
    where
      free_of : (x y z : Bool) → (y ≡ true) ⊎ (x ≡ false) → (x && not y && z) ≡ false
      free_of false y z o = refl
      free_of true true z o = refl
      free_of true false z (inl e) = absurd (false≢true e)
      free_of true false z (inr e) = absurd (false≢true (sym e))

      free : (has_lost d k v ≡ true) ⊎ (is_none (first_key k v i) ≡ false) → is_withheld d v at signed k i (key_at i) ≡ false
      free o = free_of (is_none (first_key k v i)) (has_lost d k v) (has_missed d v signed k || not (list_all (takes d at k i (key_at i)) (entering d.graph v))) o

  pub nothing_presses : useful d v at w signed k ≡ [] → pressing d v at w signed k ≡ []
  unfolding useful pressing
  nothing_presses e =
      let e1 = append_empty (useful_publishes d v at k ++ useful_unlocks d v at w signed k ++ due_claims d v k) (due_refunds d v k) e in
      let e2 = append_empty (useful_publishes d v at k ++ useful_unlocks d v at w signed k) (due_claims d v k) e1.0 in
      let e3 = append_empty (useful_publishes d v at k) (useful_unlocks d v at w signed k) e2.0 in
      rw (e3.1, e2.1, e1.1) refl

pub useful_is_due : UsefulIsDue
useful_is_due d v at w signed k x i = is_due d v at w signed k x i

pub taken_is_useful : TakenIsUseful
taken_is_useful d v at w signed k i a x l j n e why = taken_useful d v at w signed k i a x l j n e why

pub only_harm_is_left_out : OnlyHarmIsLeftOut
only_harm_is_left_out d v at w signed k x i = left_out d v at w signed k x i

pub nothing_useful_presses : NothingUsefulPresses
nothing_useful_presses d v at w signed k e = nothing_presses d v at w signed k e

-- Higher landings.

or_more : (p q r : Bool) → (q ≡ true → r ≡ true) → (p || q) ≡ true → (p || r) ≡ true
or_more true q r h e = refl
or_more false q r h e = h e

and_more : (p q r : Bool) → (q ≡ true → r ≡ true) → (p && q) ≡ true → (p && r) ≡ true
and_more true q r h e = h e
and_more false q r h e = absurd (false≢true e)

not_more : (x y : Bool) → (y ≡ true → x ≡ true) → not x ≡ true → not y ≡ true
not_more x false h e = refl
not_more true true h e = e
not_more false true h e = absurd (false≢true (h refl))

module _ (d : Deal) (v : ℕ) (at later : ℕ → ℕ) (w : Wallet) (signed : ℕ → Option Hashkey) (k : Histories) (up : (c : ℕ) → at c ≤ later c) where
  lower : (a n : ℕ) → nat_le (later a) n ≡ true → nat_le (at a) n ≡ true
  lower a n e = let l = leb-true (later a) n e in let u = up a in le-leb (at a) n (omega arith)

  accepts_lower : (o : Option Hashkey) (a : ℕ) → accepts d later k o a ≡ true → accepts d at k o a ≡ true
  accepts_lower None a e = refl
  accepts_lower (Some key) a e =
      and_more (is_none (settled (history k a))) (nat_le (later a) (last_unlock d.mode (stated_terms d a) key))
      (nat_le (at a) (last_unlock d.mode (stated_terms d a) key)) (lower a (last_unlock d.mode (stated_terms d a) key)) e

  takes_lower : (i : ℕ) (o : Option Hashkey) (a : ℕ) → takes d later k i o a ≡ true → takes d at k i o a ≡ true
  takes_lower i o a e = or_more (is_open (history k a) i) (accepts d later k o a) (accepts d at k o a) (accepts_lower o a) e

  held_higher : (i : ℕ) (o : Option Hashkey) → is_withheld d v at signed k i o ≡ true → is_withheld d v later signed k i o ≡ true
  held_higher i o e =
      let all = λ (n : ℕ → ℕ). list_all (takes d n k i o) (entering d.graph v) in
      and_more (is_none (first_key k v i) && not (has_lost d k v)) (has_missed d v signed k || not (all at)) (has_missed d v signed k || not (all later))
      (or_more (has_missed d v signed k) (not (all at)) (not (all later)) (not_more (all at) (all later) (λ t. list_all-from (takes d at k i o) (entering d.graph v) (λ a j.
      takes_lower i o a (list_all-in (takes d later k i o) (entering d.graph v) a t j))))) e

  pub higher : (x : Action) → IsElement x (useful d v later w signed k) → IsElement x (useful d v at w signed k)
  unfolding useful
  higher x i =
      let t = to_parts x (useful_publishes d v at k) (useful_unlocks d v at w signed k) (due_claims d v k) (due_refunds d v k) in
      by_parts x (useful_publishes d v later k) (useful_unlocks d v later w signed k) (due_claims d v k) (due_refunds d v k) _ (record {
        publish = λ j. t.publish (publishes j);
        unlock = λ j. t.unlock (unlocks j);
        claim = t.claim;
        refund = t.refund;
      }) i
    where
      publishes : IsElement x (useful_publishes d v later k) → IsElement x (useful_publishes d v at k)
      publishes j =
          let f = from_flat_map (early_at d v later w signed k) (leaving d.graph v) x j in
          in_flat_map (early_at d v at w signed k) (leaving d.graph v) f.0 x f.1
          (weaker_due (is_due_publish d v k f.0) (opens_in_time d later f.0) (opens_in_time d at f.0) f.0 (Publish (stated_terms d f.0)) x
          (lower f.0 (times.opening_deadline d.start d.delta d.bound)) f.2)

      on_lock : (l : ℕ) → IsElement x (timely_at d v later w signed k l) → IsElement x (timely_at d v at w signed k l)
      on_lock l j =
          let f = from_flat_map (timely_unlock d v later w (signed l) k l) (entering d.graph v) x j in
          in_flat_map (timely_unlock d v at w (signed l) k l) (entering d.graph v) f.0 x f.1
          (weaker_if (takes d later k l (due_key d v w (signed l) k l) f.0) (takes d at k l (due_key d v w (signed l) k l) f.0)
          (due_arc_unlock d v w (signed l) k l f.0) x (takes_lower l (due_key d v w (signed l) k l) f.0) f.2)

      unlocks : IsElement x (useful_unlocks d v later w signed k) → IsElement x (useful_unlocks d v at w signed k)
      unlocks j =
          let f = from_flat_map (pressing_unlocks d v later w signed k) (locks d) x j in
          in_flat_map (pressing_unlocks d v at w signed k) (locks d) f.0 x f.1
          (weaker_unless (is_withheld d v later signed k f.0 (due_key d v w (signed f.0) k f.0)) (is_withheld d v at signed k f.0 (due_key d v w (signed f.0) k f.0))
          (timely_at d v later w signed k f.0) (timely_at d v at w signed k f.0) x (held_higher f.0 (due_key d v w (signed f.0) k f.0)) (on_lock f.0) f.2)

pub higher_is_less : HigherIsLess
higher_is_less d v at later w signed k x up i = higher d v at later w signed k up x i

none_at : {A : Type 0} (xs : List A) → ((x : A) → IsElement x xs → ⊥) → xs ≡ []
none_at [] h = refl
none_at (x ∷ xs) h = absurd (h x (inl refl))

from_none : {A : Type 0} (xs : List A) (x : A) → xs ≡ [] → IsElement x xs → ⊥
from_none [] x e i = i
from_none (y ∷ ys) x e i = cc e

-- Ticks.

held_none : (held more : Bool) (xs : List Action) → (held ≡ true → more ≡ true) → cond held [] xs ≡ [] → cond more [] xs ≡ []
held_none held true xs h e = refl
held_none true false xs h e = absurd (false≢true (h refl))
held_none false false xs h e = e

none_flat : {A B : Type 0} (f : A → List B) (xs : List A) → ((x : A) → IsElement x xs → f x ≡ []) → flat_map f xs ≡ []
none_flat f [] h = refl
none_flat f (x ∷ xs) h = ap₂ (λ ys zs. ys ++ zs) (h x (inl refl)) (none_flat f xs (λ y i. h y (inr i)))

ticking_key : (v i : ℕ) (e : Entry) → is_ticking e.what ≡ true → unlock_hashkey i (pick_call v e) ≡ None
ticking_key v i e t = ap (unlock_hashkey i) (not_called v e t)

first_in_book : (f : Entry → Option Hashkey) → ((e : Entry) → is_ticking e.what ≡ true → f e ≡ None) → (k : Histories) (a : ℕ) (more : List Entry)
    → are_ticks more ≡ true → first_given_answer f (flat_map (λ h. h) (set k a (history k a ++ more))) ≡ first_given_answer f (flat_map (λ h. h) k)
first_in_book f n [] a more t = refl
first_in_book f n (h ∷ k) zero more t =
    first_given_answer-append f (h ++ more) (flat_map (λ h. h) k)
    ∙ (ap (λ o. or_else o (first_given_answer f (flat_map (λ h. h) k))) (first_past f n h more t) ∙ sym (first_given_answer-append f h (flat_map (λ h. h) k)))
first_in_book f n (h ∷ k) (suc a) more t =
    first_given_answer-append f h (flat_map (λ h. h) (set k a (history k a ++ more)))
    ∙ (ap (or_else (first_given_answer f h)) (first_in_book f n k a more t) ∙ sym (first_given_answer-append f h (flat_map (λ h. h) k)))

module _ (d : Deal) (v : ℕ) (at : ℕ → ℕ) (w : Wallet) (signed : ℕ → Option Hashkey) (k : Histories) (a : ℕ) (more : List Entry) (ticks : are_ticks more ≡ true) where
  abbrev after : Histories
  after = set k a (history k a ++ more)

  same : (c : ℕ) → ReadsSame v (history k c) (history after c)
  same c = reads d v w signed k a more ticks c

  same_open : (c i : ℕ) → opened (history after c) i ≡ opened (history k c) i
  same_open c i = let s = same c in s.open_at i

  same_settled : (c : ℕ) → settled (history after c) ≡ settled (history k c)
  same_settled c = let s = same c in s.settle

  same_first : (i : ℕ) → first_key after v i ≡ first_key k v i
  unfolding first_key
  same_first i = first_in_book (λ e. unlock_hashkey i (pick_call v e)) (ticking_key v i) k a more ticks

  same_lost : has_lost d after v ≡ has_lost d k v
  same_lost = λ j. list_any (λ c. are_open d (λ i. is_some (same_open c i j))) (leaving d.graph v)

  same_due_key : (s : Option Hashkey) (i : ℕ) → due_key d v w s after i ≡ due_key d v w s k i
  unfolding due_key seen_key
  same_due_key s i =
      λ j. or_else s (cond (leads d v i) (Some (w.first i))
      (extended w (first_given_answer (λ c. key_without_party v (same_open c i j)) (leaving d.graph v))))

  same_accepts : (o : Option Hashkey) (c : ℕ) → accepts d at after o c ≡ accepts d at k o c
  same_accepts None c = refl
  same_accepts (Some key) c = λ j. is_none (same_settled c j) && nat_le (at c) (last_unlock d.mode (stated_terms d c) key)

  same_takes : (i : ℕ) (o : Option Hashkey) (c : ℕ) → takes d at after i o c ≡ takes d at k i o c
  same_takes i o c = λ j. is_some (same_open c i j) || same_accepts o c j

  higher_now : (c : ℕ) → height (history k c) ≤ height (history after c)
  higher_now c = begins_height (history k c) (history after c) (grows_on d v w signed k a more ticks c)

  past_rises : (c n m : ℕ) (o : Option Hashkey) → n ≤ m → is_past d c o n ≡ true → is_past d c o m ≡ true
  past_rises c n m None l e = e
  past_rises c n m (Some key) l e = let h = ltb-true (last_unlock d.mode (stated_terms d c) key) n e in lt-ltb (last_unlock d.mode (stated_terms d c) key) m (omega arith)

  missed_rises : (c l : ℕ) → is_missed d k signed c l ≡ true → is_missed d after signed c l ≡ true
  missed_rises c l e =
      let p = and_parts (not (is_open (history k c) l)) (is_past d c (signed l) (height (history k c))) e in
      and_both (not (is_open (history after c) l)) (is_past d c (signed l) (height (history after c)))
      (ap (λ x. not (is_some x)) (same_open c l) ∙ p.0) (past_rises c (height (history k c)) (height (history after c)) (signed l) (higher_now c) p.1)

  any_more : {A : Type 0} (p q : A → Bool) (xs : List A) → ((x : A) → p x ≡ true → q x ≡ true) → list_any p xs ≡ true → list_any q xs ≡ true
  any_more p q xs h e = let y = in_any p xs e in list_any-in q xs y.0 (h y.0 y.2) y.1

  all_missed_rise : has_missed d v signed k ≡ true → has_missed d v signed after ≡ true
  all_missed_rise =
      any_more (λ c. list_any (is_missed d k signed c) (locks d)) (λ c. list_any (is_missed d after signed c) (locks d)) (entering d.graph v)
      (λ c. any_more (is_missed d k signed c) (is_missed d after signed c) (locks d) (missed_rises c))

  or_less : (p q r : Bool) → (p ≡ true → q ≡ true) → (p || r) ≡ true → (q || r) ≡ true
  or_less true q r h e = ap (λ x. x || r) (h refl)
  or_less false true r h e = refl
  or_less false false r h e = e

  held_on : (i : ℕ) (o : Option Hashkey) → is_withheld d v at signed k i o ≡ true → is_withheld d v at signed after i o ≡ true
  held_on i o e =
      let same : (is_none (first_key k v i) && not (has_lost d k v)
      && (has_missed d v signed after || not (list_all (takes d at k i o) (entering d.graph v)))) ≡ is_withheld d v at signed after i o =
      sym (λ j. is_none (same_first i j) && not (same_lost j) && (has_missed d v signed after || not (list_all (λ c. same_takes i o c j) (entering d.graph v)))) in
      sym same ∙ and_more (is_none (first_key k v i) && not (has_lost d k v)) (has_missed d v signed k || not (list_all (takes d at k i o) (entering d.graph v)))
      (has_missed d v signed after || not (list_all (takes d at k i o) (entering d.graph v)))
      (or_less (has_missed d v signed k) (has_missed d v signed after) (not (list_all (takes d at k i o) (entering d.graph v))) all_missed_rise) e

  same_timely : (i : ℕ) → flat_map (timely_unlock d v at w (signed i) after i) (entering d.graph v) ≡ flat_map (timely_unlock d v at w (signed i) k i) (entering d.graph v)
  same_timely i =
      ap (λ o. flat_map (λ c. cond (takes d at after i o c) (due_arc_unlock d v w (signed i) after i c) []) (entering d.graph v)) (same_due_key (signed i) i)
      ∙ (λ j. flat_map (λ c. cond (same_takes i (due_key d v w (signed i) k i) c j) (same_unlock d v k after same w (signed i) i c j) []) (entering d.graph v))

  none_pressing : (i : ℕ) → pressing_unlocks d v at w signed k i ≡ [] → pressing_unlocks d v at w signed after i ≡ []
  none_pressing i e =
      ap (λ o. cond (is_withheld d v at signed after i o) [] (flat_map (timely_unlock d v at w (signed i) after i) (entering d.graph v))) (same_due_key (signed i) i)
      ∙ (ap (λ xs. cond (is_withheld d v at signed after i (due_key d v w (signed i) k i)) [] xs) (same_timely i)
      ∙ held_none (is_withheld d v at signed k i (due_key d v w (signed i) k i)) (is_withheld d v at signed after i (due_key d v w (signed i) k i))
      (flat_map (timely_unlock d v at w (signed i) k i) (entering d.graph v)) (held_on i (due_key d v w (signed i) k i)) e)

  same_useful_publishes : useful_publishes d v at after ≡ useful_publishes d v at k
  same_useful_publishes =
      λ j. flat_map (λ c. when_due (same_publish d v k after same c j && opens_in_time d at c) c (Publish (stated_terms d c))) (leaving d.graph v)

  none_unlocked : useful_unlocks d v at w signed k ≡ [] → useful_unlocks d v at w signed after ≡ []
  none_unlocked e =
      none_flat (pressing_unlocks d v at w signed after) (locks d) (λ i j.
      none_pressing i (flat_map_none (pressing_unlocks d v at w signed k) (locks d) i e j))

  pub nothing_useful : useful d v at w signed k ≡ [] → StaysLow d v k a more → useful d v at w signed after ≡ []
  unfolding useful
  nothing_useful e low =
      let e1 = append_empty (useful_publishes d v at k ++ useful_unlocks d v at w signed k ++ due_claims d v k) (due_refunds d v k) e in
      let e2 = append_empty (useful_publishes d v at k ++ useful_unlocks d v at w signed k) (due_claims d v k) e1.0 in
      let e3 = append_empty (useful_publishes d v at k) (useful_unlocks d v at w signed k) e2.0 in
      rw (
        same_useful_publishes,
        e3.0,
        none_unlocked e3.1,
        same_claims d v k after same,
        e2.1,
        none_refunded d v w signed k a more ticks e1.1 low,
      ) refl

pub ticks_make_nothing_useful : TicksMakeNothingUseful
ticks_make_nothing_useful d v at later w signed k a more ticks up none low =
    nothing_useful d v later w signed k a more ticks (none_at (useful d v later w signed k) (λ x i.
    from_none (useful d v at w signed k) x none (higher d v at later w signed k up x i))) low

-- Whether a hashkey was presented.

none_if : (b : Bool) (key : Hashkey) → is_none (cond b (Some key) None) ≡ not b
none_if true key = refl
none_if false key = refl

none_key : (i : ℕ) (o : Option Call) → is_none (unlock_hashkey i o) ≡ not (unlocks_lock i o)
none_key i None = refl
none_key i (Some (Publish t)) = refl
none_key i (Some (Unlock key)) = none_if (key.lock == i) key
none_key i (Some Claim) = refl
none_key i (Some Refund) = refl
none_key i (Some (Transfer to units)) = refl

none_or : {A : Type 0} (o p : Option A) → is_none (or_else o p) ≡ (is_none o && is_none p)
none_or None p = refl
none_or (Some x) p = refl

not_or : (a b : Bool) → (not a && not b) ≡ not (a || b)
not_or true b = refl
not_or false b = refl

none_called : (v i : ℕ) (h : List Entry) → is_none (first_given_answer (λ e. unlock_hashkey i (pick_call v e)) h) ≡ not (has_called v (unlocks_lock i) h)
none_called v i [] = refl
none_called v i (e ∷ h) =
    none_or (unlock_hashkey i (pick_call v e)) (first_given_answer (λ e. unlock_hashkey i (pick_call v e)) h)
    ∙ (ap₂ (λ a b. a && b) (none_key i (pick_call v e)) (none_called v i h)
    ∙ not_or (unlocks_lock i (pick_call v e)) (has_called v (unlocks_lock i) h))

-- no hashkey for lock i was presented exactly where no history has an unlock call for it
pub unrevealed : (v i : ℕ) (k : Histories) → is_none (first_key k v i) ≡ not (list_any (has_called v (unlocks_lock i)) k)
unfolding first_key
unrevealed v i [] = refl
unrevealed v i (h ∷ k) =
    ap is_none (first_given_answer-append (λ e. unlock_hashkey i (pick_call v e)) h (flat_map (λ h. h) k))
    ∙ (none_or (first_given_answer (λ e. unlock_hashkey i (pick_call v e)) h) (first_given_answer (λ e. unlock_hashkey i (pick_call v e)) (flat_map (λ h. h) k))
    ∙ (ap₂ (λ a b. a && b) (none_called v i h) (unrevealed v i k)
    ∙ not_or (has_called v (unlocks_lock i) h) (list_any (has_called v (unlocks_lock i)) k)))

-- nothing is useful for a lock where no unlock for it is due
pub none_due_presses : (d : Deal) (v : ℕ) (at : ℕ → ℕ) (w : Wallet) (signed : ℕ → Option Hashkey) (k : Histories) (i : ℕ)
    → flat_map (due_arc_unlock d v w (signed i) k i) (entering d.graph v) ≡ [] → pressing_unlocks d v at w signed k i ≡ []
none_due_presses d v at w signed k i e =
    unless_none (is_withheld d v at signed k i (due_key d v w (signed i) k i)) (flat_map (timely_unlock d v at w (signed i) k i) (entering d.graph v))
    (none_flat (timely_unlock d v at w (signed i) k i) (entering d.graph v) (λ a j.
    if_none (takes d at k i (due_key d v w (signed i) k i) a) (due_arc_unlock d v w (signed i) k i a)
    (flat_map_none (due_arc_unlock d v w (signed i) k i) (entering d.graph v) a e j)))
  where
    unless_none : (held : Bool) (xs : List Action) → xs ≡ [] → cond held [] xs ≡ []
    unless_none true xs n = refl
    unless_none false xs n = n

    if_none : (test : Bool) (xs : List Action) → xs ≡ [] → cond test xs [] ≡ []
    if_none true xs n = n
    if_none false xs n = refl
