-- The accepted unlock of a lock, found by the number of its entry.
use Rattle.std.proofs.Common.{◌≡◌, ℕ, ◌<◌, Bool, true, false, cond, nat_lt, List, [], ◌∷◌, length, get_or, Option, Some, None, is_some, option_map, not}
use Rattle.std.proofs.Common.{refl, sym, ap, ◌∙◌, arith, ltb-true}
use Rattle.std.specs.Prelude.{position, slice_get}
use Rattle.std.specs.List.{find, position_or_len}
use Rattle.std.proofs.lemmas.Option.{slice_get_past, slice_get-get_or}
use Rattle.std.proofs.lemmas.List.Folds.{find_at}
use Rattle.std.proofs.lemmas.Bool.{ltb-false}
use Rattle.swap_base.specs.Lists.{or_else, first_given_answer}
use Rattle.swap_base.proofs.Lists.{or_else-stays, or_else-skips}
use Rattle.swap_digraph.specs.declared.deal.Deal.{Deal}
use Rattle.swap_digraph.specs.Deal.{IsWellSized}
use Rattle.escrow_core.specs.declared.terms.Terms.{Terms}
use Rattle.ledger_core.specs.declared.entry.Entry.{Entry}
use Rattle.swap_digraph.specs.Graph.{is_listed}
use Rattle.hashkey_path.specs.declared.hashkey.Hashkey.{Hashkey}
use Rattle.swap_rules.specs.Party.{opens_without_party}
use Rattle.ledger_core.specs.History.{accepted, Opening, opening, opened, is_open}
use Rattle.ledger_core.specs.Facts.{opened_number}
use Rattle.due_calls.specs.DealTerms.{AreDealTerms}
use Rattle.due_calls.proofs.ArcMembers.{terms_at}

-- the first answer is that of the first element with an answer

same_some : {C : Type 0} (z u : C) → Some z ≡ Some u → z ≡ u
same_some z u e = cc e

found_by : {A B : Type 0} (f : A → Option B) (b : Bool) (x y : A) (o : Option A) (rest : Option B) → is_some (f x) ≡ b → cond b (Some x) o ≡ Some y
    → (o ≡ Some y → rest ≡ f y) → or_else (f x) rest ≡ f y
found_by f true x y o rest s e h = or_else-stays (f x) rest s ∙ ap f (same_some x y e)
found_by f false x y o rest s e h = or_else-skips (f x) rest s ∙ h e

pub first_of_found : {A B : Type 0} (f : A → Option B) (xs : List A) (y : A) → find (λ x. is_some (f x)) xs ≡ Some y → first_given_answer f xs ≡ f y
first_of_found f [] y e = absurd (cc e)
first_of_found f (x ∷ xs) y e = found_by f (is_some (f x)) x y (find (λ z. is_some (f z)) xs) (first_given_answer f xs) refl e (first_of_found f xs y)

is_some_by : {A B : Type 0} (o : Option B) (x : A) (rest : Option B) (r : Option A) → is_some r ≡ is_some rest
    → is_some (cond (is_some o) (Some x) r) ≡ is_some (or_else o rest)
is_some_by None x rest r e = e
is_some_by (Some y) x rest r e = refl

pub is_some_found : {A B : Type 0} (f : A → Option B) (xs : List A) → is_some (find (λ x. is_some (f x)) xs) ≡ is_some (first_given_answer f xs)
is_some_found f [] = refl
is_some_found f (x ∷ xs) = is_some_by (f x) x (first_given_answer f xs) (find (λ y. is_some (f y)) xs) (is_some_found f xs)

-- its place, where it has one

some_within : {A : Type 0} (xs : List A) (n : ℕ) → n < length xs → is_some (slice_get xs n) ≡ true
some_within [] n l = absurd (omega arith)
some_within (x ∷ xs) n l = ap is_some (slice_get-get_or (x ∷ xs) n x l)

by_place : {A : Type 0} (xs : List A) (n : ℕ) (b : Bool) → nat_lt n (length xs) ≡ b → is_some (cond b (Some n) None) ≡ is_some (slice_get xs n)
by_place xs n true e = sym (some_within xs n (ltb-true n (length xs) e))
by_place xs n false e = sym (ap is_some (slice_get_past xs n (ltb-false n (length xs) e)))

pub is_some_position : {A : Type 0} (p : A → Bool) (xs : List A) → is_some (position p xs) ≡ is_some (find p xs)
is_some_position p xs = by_place xs (position_or_len p xs) (nat_lt (position_or_len p xs) (length xs)) refl ∙ ap is_some (sym (find_at p xs))

place_is : (n m : ℕ) (b : Bool) → cond b (Some n) None ≡ Some m → n ≡ m
place_is n m true e = same_some n m e
place_is n m false e = absurd (cc e)

position_found : {A : Type 0} (p : A → Bool) (xs : List A) (n : ℕ) → position p xs ≡ Some n → find p xs ≡ slice_get xs n
position_found p xs n e = find_at p xs ∙ ap (slice_get xs) (place_is (position_or_len p xs) n (nat_lt (position_or_len p xs) (length xs)) e)

-- a lock is opened where there is a number
pub open_number : (h : List Entry) (i : ℕ) → is_some (opened_number h i) ≡ is_open h i
open_number h i = is_some_position (λ e. is_some (opening i e.height (accepted e))) h ∙ is_some_found (λ e. opening i e.height (accepted e)) h

-- by the entry of that number
pub opened_by : (h : List Entry) (i n : ℕ) (e : Entry) → opened_number h i ≡ Some n → slice_get h n ≡ Some e → opened h i ≡ opening i e.height (accepted e)
opened_by h i n e p g = first_of_found (λ e. opening i e.height (accepted e)) h e (position_found (λ e. is_some (opening i e.height (accepted e))) h n p ∙ g)

none_of : {C : Type 0} (o : Option C) (r : Option ℕ) → is_some r ≡ is_some o → r ≡ None → o ≡ None
none_of None r s e = refl
none_of (Some z) r s e = absurd (cc (sym s ∙ ap is_some e))

-- a lock without a number isn't opened
pub not_opened : (h : List Entry) (i : ℕ) → opened_number h i ≡ None → opened h i ≡ None
not_opened h i e = none_of (opened h i) (opened_number h i) (open_number h i) e

-- a lock of the deal is a lock of the arc's correct terms
pub has_lock : {A : Type 0} (terms : A → Terms) (d : Deal) (known : List A) (a i : ℕ) (x : A) → IsWellSized d → AreDealTerms terms d known
    → a < length known → x ≡ get_or known a x → i < length d.leaders → i < length (terms x).locks
has_lock terms d known a i x sized made within is l =
    let e : length (terms x).locks ≡ length d.hashlocks = ap (λ t. length t.locks) (terms_at terms d known a x made within is) in
    let h : length d.hashlocks ≡ length d.leaders = sized.hashlocks in
    omega arith

-- whether a path without v opened the lock, by the hashkey alone

pub opens_by_key : (v : ℕ) (o : Option Opening) (key : Hashkey) → Some key ≡ option_map (λ x. x.key) o → not (is_listed v key.path) ≡ opens_without_party v o
opens_by_key v None key e = absurd (cc e)
opens_by_key v (Some o) key e = ap (λ k. not (is_listed v k.path)) (same_some key o.key e)

pub opens_by_none : (v : ℕ) (o : Option Opening) → ◌≡◌ {A = Option Hashkey} None (option_map (λ x. x.key) o) → false ≡ opens_without_party v o
opens_by_none v None e = refl
opens_by_none v (Some o) e = absurd (cc e)
