-- The hashkeys of due unlocks, and the unlocks with them.
use Rattle.std.proofs.Common.{◌≡◌, ℕ, ◌<◌, Bool, true, false, cond, not, ◌&&◌, ◌||◌, List, [], ◌∷◌, ◌++◌, length, Option, Some, None, option_map}
use Rattle.std.proofs.Common.{refl, sym, ap, ap₂, ◌∙◌, subst, inl, inr, get_or, append-nil}
use Rattle.std.specs.Prelude.{IsSome}
use Rattle.std.specs.List.{flat_map, list_all}
use Rattle.std.proofs.lemmas.List.{length-map}
use Rattle.swap_base.specs.Lists.{IsElement}
use Rattle.swap_base.proofs.Lists.{list_all-in}
use Rattle.swap_digraph.specs.Graph.{leaving, entering}
use Rattle.swap_digraph.specs.declared.deal.Deal.{Deal}
use Rattle.swap_digraph.specs.Deal.{leads, locks, IsWellSized}
use Rattle.hashkey_path.specs.declared.hashkey.Hashkey.{Hashkey}
use Rattle.ledger_core.specs.declared.entry.Call.TheVariants.{Unlock}
use Rattle.ledger_core.specs.declared.entry.Entry.{Entry}
use Rattle.ledger_core.specs.History.{opened}
use Rattle.ledger_core.specs.Book.{Histories, history, IsLegalBook}
use Rattle.ledger_core.specs.Facts.{opened_key}
use Rattle.history_index.specs.Value.{IndexState}
use Rattle.history_index.specs.Indexes.{all_entries, AreIndexes}
use Rattle.swap_rules.specs.Party.{is_ready, opens_without_party}
use Rattle.swap_rules.specs.Due.{Wallet, Action, due_key, due_arc_unlock, extended, has_called, unlocks_lock, may_unlock, presented, when_due}
use Rattle.swap_rules.specs.Useful.{is_withheld, pressing_unlocks, takes, timely_unlock}
use Rattle.answer_rules.specs.Stopped.{unlocks_unless_stopped}
use Rattle.swap_rules.proofs.Words.{leaves}
use Rattle.due_calls.proofs.Openings.{has_lock}
use Rattle.due_calls.specs.declared.unlock_due.Base.{Base}
use Rattle.due_calls.specs.declared.unlock_due.Base.TheVariants.{Signed, Own, Onto}
use Rattle.due_calls.specs.DueUnlock.{due_base}
use Rattle.due_calls.specs.Unlocks.{make_due_key, first_seen_arc}
use Rattle.due_calls.proofs.Keys.{ComesFrom, comes_from}
use Rattle.party_machine.specs.Unlocking.{IsSignable}
use Rattle.party_machine.proofs.MachineEntries.{released_history}
use Rattle.party_machine.proofs.Onto.{can_put_onto, found}

-- Where a hashkey comes from.

not_signed : (b : Bool) (o : Option ℕ) → cond b (Some Own) (option_map Onto o) ≡ Some Signed → ⊥
not_signed true o e = cc e
not_signed false None e = cc e
not_signed false (Some a) e = cc e

pub is_signed : (d : Deal) (v : ℕ) (s : Option Hashkey) (k : Histories) (i : ℕ) → due_base d v s k i ≡ Some Signed → IsSome s
unfolding due_base
is_signed d v None k i e = absurd (not_signed (leads d v i) (first_seen_arc d v k i) e)
is_signed d v (Some key) k i e = refl

onto_seen : (b : Bool) (o : Option ℕ) (a : ℕ) → cond b (Some Own) (option_map Onto o) ≡ Some (Onto a) → o ≡ Some a
onto_seen true o a e = absurd (cc e)
onto_seen false None a e = absurd (cc e)
onto_seen false (Some c) a e = cc e

pub is_seen : (d : Deal) (v : ℕ) (s : Option Hashkey) (k : Histories) (i a : ℕ) → due_base d v s k i ≡ Some (Onto a) → first_seen_arc d v k i ≡ Some a
unfolding due_base
is_seen d v None k i a e = onto_seen (leads d v i) (first_seen_arc d v k i) a e
is_seen d v (Some key) k i a e = absurd (cc e)

-- One index per arc, of a legal book, in which the party saw an opening of the lock on arc a.
module _ (d : Deal) (v : ℕ) (s : Option Hashkey) (known : List IndexState) (i a : ℕ) (sized : IsWellSized d) (party : v < d.graph.n)
    (indexes : AreIndexes d known) (legal : IsLegalBook d (all_entries known)) (base : due_base d v s (all_entries known) i ≡ Some (Onto a)) where
  seen : first_seen_arc d v (all_entries known) i ≡ Some a
  seen = is_seen d v s (all_entries known) i a base

  one_each : length known ≡ length d.graph.arcs
  one_each = sym (length-map known (λ x. x.entries)) ∙ legal.one_each

  pub seen_below : a < length known
  seen_below =
      let f = found (λ c. opens_without_party v (opened (history (all_entries known) c) i)) (leaving d.graph v) a seen in
      rw one_each (leaves d v a f.0).0

  pub seen_lock : (x : IndexState) → x ≡ get_or known a x → i < length d.leaders → i < length x.terms.locks
  seen_lock x is lock = has_lock (λ x. x.terms) d known a i x sized indexes.terms seen_below is lock

  pub seen_entries : (x : IndexState) → x ≡ get_or known a x → history (all_entries known) a ≡ x.entries
  seen_entries x is = released_history known a x seen_below is

  pub seen_onto : (x : IndexState) → x ≡ get_or known a x → IsSignable d i (opened_key x.entries i)
  seen_onto x is =
      subst (λ (h : List Entry). IsSignable d i (opened_key h i)) (seen_entries x is)
      (can_put_onto d v i a (all_entries known) sized party (λ c lt. legal.legal c (rw legal.one_each lt)) seen)

  pub seen_key : (w : Wallet) (signed : ℕ → Option Hashkey) (x : IndexState) (key : Hashkey) → x ≡ get_or known a x
      → extended w (opened_key x.entries i) ≡ Some key → make_due_key w signed (all_entries known) i (Onto a) ≡ Some key
  seen_key w signed x key is e = ap (λ (h : List Entry). extended w (opened_key h i)) (seen_entries x is) ∙ e

-- the hashkey for the lock is the one that comes from its base
pub by_base : (d : Deal) (v : ℕ) (w : Wallet) (signed : ℕ → Option Hashkey) (k : Histories) (i : ℕ) (base : Base) (key : Hashkey)
    → Some base ≡ due_base d v (signed i) k i → make_due_key w signed k i base ≡ Some key → Some key ≡ due_key d v w (signed i) k i
by_base d v w signed k i base key e from =
    let c = subst (λ (o : Option Base). ComesFrom w signed k i o (due_key d v w (signed i) k i)) (sym e) (comes_from d v w signed k i) in
    sym from ∙ (c.1 ∙ sym c.2)

pub by_none : (d : Deal) (v : ℕ) (w : Wallet) (signed : ℕ → Option Hashkey) (k : Histories) (i : ℕ) → None ≡ due_base d v (signed i) k i
    → None ≡ due_key d v w (signed i) k i
by_none d v w signed k i e =
    sym (subst (λ (o : Option Base). ComesFrom w signed k i o (due_key d v w (signed i) k i)) (sym e) (comes_from d v w signed k i))

-- Unlocks.

pub empty_flat : {A : Type 0} (f : ℕ → List A) (xs : List ℕ) → ((x : ℕ) → IsElement x xs → f x ≡ []) → flat_map f xs ≡ []
empty_flat f [] h = refl
empty_flat f (x ∷ xs) h = ap₂ (λ ys zs. ys ++ zs) (h x (inl refl)) (empty_flat f xs (λ y i. h y (inr i)))

none_presented : (b : Bool) (a : ℕ) → cond b (presented a None) [] ≡ []
none_presented true a = refl
none_presented false a = refl

none_called : (ready called : Bool) (a : ℕ) (o : Option Hashkey) → called ≡ true → cond (ready && not called) (presented a o) [] ≡ []
none_called true true a o e = refl
none_called false true a o e = refl
none_called ready false a o e = absurd (cc e)

-- where the arc takes the hashkey, the unlock that the ready party didn't make is due
taken_unlock : (t called : Bool) (d : Deal) (v : ℕ) (w : Wallet) (signed : Option Hashkey) (k : Histories) (i a : ℕ) (key : Hashkey)
    → has_called v (unlocks_lock i) (history k a) ≡ called → Some key ≡ due_key d v w signed k i → is_ready d k v ≡ true
    → when_due (t && not called) a (Unlock key) ≡ cond t (due_arc_unlock d v w signed k i a) []
unfolding due_arc_unlock
taken_unlock false called d v w signed k i a key c e ready = refl
taken_unlock true called d v w signed k i a key c e ready =
    ap₂ (λ (b : Bool) (o : Option Hashkey). cond (b && not called) (presented a o) []) (sym ready) e
    ∙ ap (λ (b : Bool). cond (is_ready d k v && not b) (presented a (due_key d v w signed k i)) []) (sym c)

-- with a hashkey each that the ready party didn't make and that its arc takes is timely
pub with_key : (d : Deal) (v : ℕ) (at : ℕ → ℕ) (w : Wallet) (signed : Option Hashkey) (k : Histories) (i : ℕ) (xs : List ℕ) (key : Hashkey)
    → Some key ≡ due_key d v w signed k i → is_ready d k v ≡ true
    → flat_map (λ a. when_due (takes d at k i (Some key) a && not (has_called v (unlocks_lock i) (history k a))) a (Unlock key)) xs
    ≡ flat_map (timely_unlock d v at w signed k i) xs
with_key d v at w signed k i xs key e ready =
    ap (λ (f : ℕ → List Action). flat_map f xs) (λ r a. (each a) r)
  where
    each : (a : ℕ) → when_due (takes d at k i (Some key) a && not (has_called v (unlocks_lock i) (history k a))) a (Unlock key)
        ≡ timely_unlock d v at w signed k i a
    each a =
        taken_unlock (takes d at k i (Some key) a) (has_called v (unlocks_lock i) (history k a)) d v w signed k i a key refl e ready
        ∙ ap (λ (o : Option Hashkey). cond (takes d at k i o a) (due_arc_unlock d v w signed k i a) []) e

pub nothing_more : {A : Type 0} (old new xs : List A) → new ≡ old → xs ≡ [] → new ≡ old ++ xs
nothing_more old new xs e none = e ∙ (sym (append-nil old) ∙ ap (λ ys. old ++ ys) (sym none))

-- Locks that are stopped, and hashkeys that are withheld.

unless_none : (b : Bool) (xs : List Action) → xs ≡ [] → cond b [] xs ≡ []
unless_none true xs e = refl
unless_none false xs e = e

if_none : (b : Bool) (xs : List Action) → xs ≡ [] → cond b xs [] ≡ []
if_none true xs e = e
if_none false xs e = refl

-- where nothing is due for a lock nothing is timely
none_timely : (d : Deal) (v : ℕ) (at : ℕ → ℕ) (w : Wallet) (signed : Option Hashkey) (k : Histories) (i : ℕ) (xs : List ℕ)
    → ((a : ℕ) → IsElement a xs → due_arc_unlock d v w signed k i a ≡ []) → flat_map (timely_unlock d v at w signed k i) xs ≡ []
none_timely d v at w signed k i xs none =
    empty_flat (timely_unlock d v at w signed k i) xs (λ a m.
    if_none (takes d at k i (due_key d v w signed k i) a) (due_arc_unlock d v w signed k i a) (none a m))

-- nothing is useful for any lock where the party isn't ready
pub none_unless : (stops : ℕ → Bool) (d : Deal) (v : ℕ) (at : ℕ → ℕ) (w : Wallet) (signed : ℕ → Option Hashkey) (k : Histories) → is_ready d k v ≡ false
    → flat_map (unlocks_unless_stopped stops d v at w signed k) (locks d) ≡ []
unfolding due_arc_unlock
none_unless stops d v at w signed k e =
    empty_flat (unlocks_unless_stopped stops d v at w signed k) (locks d) (λ i j.
    unless_none (stops i) (pressing_unlocks d v at w signed k i)
    (unless_none (is_withheld d v at signed k i (due_key d v w (signed i) k i)) (flat_map (timely_unlock d v at w (signed i) k i) (entering d.graph v))
    (none_timely d v at w (signed i) k i (entering d.graph v) (λ a m.
    ap (λ b. cond (b && not (has_called v (unlocks_lock i) (history k a))) (presented a (due_key d v w (signed i) k i)) []) e))))

-- nothing is useful for a lock without a hashkey
pub without_key : (d : Deal) (v : ℕ) (at : ℕ → ℕ) (w : Wallet) (signed : ℕ → Option Hashkey) (k : Histories) (i : ℕ)
    → None ≡ due_key d v w (signed i) k i → pressing_unlocks d v at w signed k i ≡ []
unfolding due_arc_unlock
without_key d v at w signed k i e =
    unless_none (is_withheld d v at signed k i (due_key d v w (signed i) k i)) (flat_map (timely_unlock d v at w (signed i) k i) (entering d.graph v))
    (none_timely d v at w (signed i) k i (entering d.graph v) (λ a m.
    ap (λ o. cond (may_unlock d v k i a) (presented a o) []) (sym e) ∙ none_presented (may_unlock d v k i a) a))

module _ (stops : ℕ → Bool) (d : Deal) (v : ℕ) where
  abbrev is_silent : Histories → ℕ → Bool
  is_silent k i = stops i || list_all (λ a. has_called v (unlocks_lock i) (history k a)) (entering d.graph v)

  pub isnt_stopped : (k : Histories) (i : ℕ) → is_silent k i ≡ false → stops i ≡ false
  isnt_stopped k i e = go (stops i) (list_all (λ a. has_called v (unlocks_lock i) (history k a)) (entering d.graph v)) e
    where
      go : (b r : Bool) → (b || r) ≡ false → b ≡ false
      go true r e = absurd (cc e)
      go false r e = refl

  module _ (at : ℕ → ℕ) (w : Wallet) (signed : ℕ → Option Hashkey) (k : Histories) (i : ℕ) where
    -- nothing is useful where the party made an unlock on each entering arc
    all_called : list_all (λ a. has_called v (unlocks_lock i) (history k a)) (entering d.graph v) ≡ true → pressing_unlocks d v at w signed k i ≡ []
    unfolding due_arc_unlock
    all_called e =
        unless_none (is_withheld d v at signed k i (due_key d v w (signed i) k i)) (flat_map (timely_unlock d v at w (signed i) k i) (entering d.graph v))
        (none_timely d v at w (signed i) k i (entering d.graph v) (λ a m.
        none_called (is_ready d k v) (has_called v (unlocks_lock i) (history k a)) a (due_key d v w (signed i) k i)
        (list_all-in (λ a. has_called v (unlocks_lock i) (history k a)) (entering d.graph v) a e m)))

    pub silent : is_silent k i ≡ true → unlocks_unless_stopped stops d v at w signed k i ≡ []
    silent e = go (stops i) e
      where
        go : (b : Bool) → (b || list_all (λ a. has_called v (unlocks_lock i) (history k a)) (entering d.graph v)) ≡ true
            → cond b [] (pressing_unlocks d v at w signed k i) ≡ []
        go true e = refl
        go false e = all_called e

    pub spoken : is_silent k i ≡ false → pressing_unlocks d v at w signed k i ≡ unlocks_unless_stopped stops d v at w signed k i
    spoken e = ap (λ b. cond b [] (pressing_unlocks d v at w signed k i)) (sym (isnt_stopped k i e))

-- what a hashkey that isn't withheld is presented with
pub unwithheld : (d : Deal) (v : ℕ) (at : ℕ → ℕ) (w : Wallet) (signed : ℕ → Option Hashkey) (k : Histories) (i : ℕ) (key : Hashkey)
    → Some key ≡ due_key d v w (signed i) k i → (b : Bool) → is_withheld d v at signed k i (Some key) ≡ b
    → pressing_unlocks d v at w signed k i ≡ cond b [] (flat_map (timely_unlock d v at w (signed i) k i) (entering d.graph v))
unwithheld d v at w signed k i key e b q =
    ap (λ t. cond t [] (flat_map (timely_unlock d v at w (signed i) k i) (entering d.graph v)))
    (ap (is_withheld d v at signed k i) (sym e) ∙ q)
