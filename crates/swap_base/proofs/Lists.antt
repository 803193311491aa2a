-- Facts on the words of specs/Lists, by induction on the lists.
use Rattle.std.proofs.Common.{◌≡◌, ◌⊎◌, ℕ, suc, zero, ◌+◌, ◌-◌, ◌<◌, ◌≤◌, Bool, true, false, cond, not, ◌&&◌, ◌||◌, List, [], ◌∷◌, ◌++◌, length}
use Rattle.std.proofs.Common.{filter, map, count_by, Option, Some, None, is_some, refl, sym, ap, ◌∙◌, subst, inl, inr, arith, get_or}
use Rattle.std.proofs.Common.{append_assoc, append-nil}
use Rattle.std.proofs.lemmas.Bool.{false≢true}
use Rattle.std.proofs.lemmas.List.Sums.{sum_by-cons}
use Rattle.std.specs.List.{list_any, list_all, range_with_len, AllByRecursion, flat_map}
use Rattle.swap_base.specs.Lists.{or_else, first_given_answer, greatest, same_list, IsElement, Moment, moments_after_past, moments, IsMoment}

-- The first answer.

or_else_more : {B : Type 0} (o r s t : Option B) → r ≡ or_else s t → or_else o r ≡ or_else (or_else o s) t
or_else_more None r s t e = e
or_else_more (Some y) r s t e = refl

pub first_given_answer-append : {A B : Type 0} (f : A → Option B) (xs ys : List A) → first_given_answer f (xs ++ ys) ≡ or_else (first_given_answer f xs) (first_given_answer f ys)
first_given_answer-append f [] ys = refl
first_given_answer-append f (x ∷ xs) ys = or_else_more (f x) (first_given_answer f (xs ++ ys)) (first_given_answer f xs) (first_given_answer f ys) (first_given_answer-append f xs ys)

-- where the first answer y stands
pub record FirstAt {A B : Type 0} (f : A → Option B) (xs : List A) (y : B) : Type 0 where
  pub past : List A
  pub now : A
  pub stands : IsMoment xs past now
  pub gives : f now ≡ Some y
  pub none : first_given_answer f past ≡ None

first_at_head : {A B : Type 0} (f : A → Option B) (x : A) (xs : List A) (y : B) (o : Option B) → f x ≡ o → or_else o (first_given_answer f xs) ≡ Some y
    → (first_given_answer f xs ≡ Some y → FirstAt f xs y) → FirstAt f (x ∷ xs) y
first_at_head f x xs y None h e rest =
    let r = rest e in
    record { past = x ∷ r.past; now = r.now; stands = (r.stands.0, ap (λ l. x ∷ l) r.stands.1); gives = r.gives; none = rw h r.none }
first_at_head f x xs y (Some z) h e rest = record { past = []; now = x; stands = (xs, refl); gives = h ∙ e; none = refl }

pub first_at : {A B : Type 0} (f : A → Option B) (xs : List A) (y : B) → first_given_answer f xs ≡ Some y → FirstAt f xs y
first_at f [] y e = absurd (cc e)
first_at f (x ∷ xs) y e = first_at_head f x xs y (f x) refl e (first_at f xs y)

-- what a prefix answers first, the whole does
pub first_given_answer-front : {A B : Type 0} (f : A → Option B) (xs ys : List A) (y : B) → first_given_answer f xs ≡ Some y → first_given_answer f (xs ++ ys) ≡ Some y
first_given_answer-front f xs ys y e = first_given_answer-append f xs ys ∙ ap (λ o. or_else o (first_given_answer f ys)) e

or_else-some : {B : Type 0} (o r : Option B) → is_some r ≡ true → is_some (or_else o r) ≡ true
or_else-some None r h = h
or_else-some (Some y) r h = refl

pub first_given_answer-past : {A B : Type 0} (f : A → Option B) (xs past : List A) (x : A) (y : B) → IsMoment xs past x → first_given_answer f past ≡ Some y
    → first_given_answer f xs ≡ Some y
first_given_answer-past f xs past x y m e = ap (first_given_answer f) m.1 ∙ first_given_answer-front f past (x ∷ m.0) y e

pub first_given_answer-now : {A B : Type 0} (f : A → Option B) (xs past : List A) (x : A) (y : B) → IsMoment xs past x → f x ≡ Some y → is_some (first_given_answer f xs) ≡ true
first_given_answer-now f xs past x y m e =
    ap (λ l. is_some (first_given_answer f l)) m.1 ∙ ap is_some (first_given_answer-append f past (x ∷ m.0))
    ∙ or_else-some (first_given_answer f past) (or_else (f x) (first_given_answer f m.0)) (rw e refl)

-- Moments.

moment_after : {A : Type 0} (P : Moment A → Type 0) (before past rest : List A) (x : A) → AllByRecursion P (moments_after_past before (past ++ x ∷ rest))
    → P (record { past = before ++ past; now = x })
moment_after P before [] rest x h = rw append-nil h.0
moment_after P before (z ∷ past) rest x h = rw append_assoc at (moment_after P (before ++ z ∷ []) past rest x h.1)

-- what holds at every moment holds at this one
pub at_moment : {A : Type 0} (P : Moment A → Type 0) (xs past : List A) (x : A) → AllByRecursion P (moments xs) → IsMoment xs past x
    → P (record { past = past; now = x })
at_moment P xs past x h m = moment_after P [] past m.0 x (subst (λ l. AllByRecursion P (moments l)) m.1 h)

pub and_parts : (a b : Bool) → (a && b) ≡ true → (a ≡ true) × (b ≡ true)
and_parts true b h = (refl, h)
and_parts false b h = absurd (cc h)

pub all_from_list_all : {A : Type 0} (p : A → Bool) (xs : List A) → list_all p xs ≡ true → AllByRecursion (λ x. p x ≡ true) xs
all_from_list_all p [] h = tt
all_from_list_all p (x ∷ xs) h = let e = and_parts (p x) (list_all p xs) h in (e.0, all_from_list_all p xs e.1)

-- One more entry at the end.

pub all_moments_after_push : {A : Type 0} (P : Moment A → Type 0) (before xs : List A) (x : A) → AllByRecursion P (moments_after_past before xs)
    → P (record { past = before ++ xs; now = x }) → AllByRecursion P (moments_after_past before (xs ++ x ∷ []))
all_moments_after_push P before [] x h p = (rw append-nil at p, tt)
all_moments_after_push P before (y ∷ ys) x h p = (h.0, all_moments_after_push P (before ++ y ∷ []) ys x h.1 (rw append_assoc p))

pub all_moments_push : {A : Type 0} (P : Moment A → Type 0) (xs : List A) (x : A) → AllByRecursion P (moments xs) → P (record { past = xs; now = x })
    → AllByRecursion P (moments (xs ++ x ∷ []))
all_moments_push P xs x h p = all_moments_after_push P [] xs x h p

all_moments_after_front : {A : Type 0} (P : Moment A → Type 0) (before xs ys : List A) → AllByRecursion P (moments_after_past before (xs ++ ys))
    → AllByRecursion P (moments_after_past before xs)
all_moments_after_front P before [] ys h = tt
all_moments_after_front P before (x ∷ xs) ys h = (h.0, all_moments_after_front P (before ++ x ∷ []) xs ys h.1)

-- what holds at every moment of the whole holds at every moment of a prefix
pub all_moments_front : {A : Type 0} (P : Moment A → Type 0) (xs ys : List A) → AllByRecursion P (moments (xs ++ ys)) → AllByRecursion P (moments xs)
all_moments_front P xs ys h = all_moments_after_front P [] xs ys h

-- An induction that adds entries at the end.

abbrev Grows : {A : Type 0} → (P : List A → Type 0) → Type 0
Grows {A} P = (xs : List A) (x : A) → P xs → P (xs ++ x ∷ [])

grown : {A : Type 0} (P : List A → Type 0) (before xs : List A) → P before → Grows P → P (before ++ xs)
grown P before [] h step = rw append-nil h
grown P before (x ∷ xs) h step = rw append_assoc at (grown P (before ++ x ∷ []) xs (step before x h) step)

pub grow : {A : Type 0} (P : List A → Type 0) (xs : List A) → P [] → Grows P → P xs
grow P xs h step = grown P [] xs h step

-- Two moments of one list: one is a moment of the other's past, or they are the same.

pub data Order {A : Type 0} (p : List A) (x : A) (q : List A) (y : A) : Type 0 where
  Earlier : IsMoment q p x → Order p x q y
  Same : p ≡ q → x ≡ y → Order p x q y
  Later : IsMoment p q y → Order p x q y

order_more : {A : Type 0} (z w : A) (p : List A) (x : A) (q : List A) (y : A) → z ≡ w → Order p x q y → Order (z ∷ p) x (w ∷ q) y
order_more z w p x q y e (Earlier m) = Earlier (m.0, ap (λ l. w ∷ l) m.1 ∙ ap (λ v. v ∷ (p ++ x ∷ m.0)) (sym e))
order_more z w p x q y e (Same h k) = Same (ap (λ l. z ∷ l) h ∙ ap (λ v. v ∷ q) e) k
order_more z w p x q y e (Later m) = Later (m.0, ap (λ l. z ∷ l) m.1 ∙ ap (λ v. v ∷ (q ++ y ∷ m.0)) e)

pub order : {A : Type 0} (p : List A) (x : A) (r : List A) (q : List A) (y : A) (s : List A) → p ++ x ∷ r ≡ q ++ y ∷ s → Order p x q y
order [] x r [] y s e = Same refl (cc)
order [] x r (w ∷ q) y s e = let k : x ≡ w = cc in Earlier (q, ap (λ v. v ∷ q) (sym k))
order (z ∷ p) x r [] y s e = let k : z ≡ y = cc in Later (p, ap (λ v. v ∷ p) k)
order (z ∷ p) x r (w ∷ q) y s e = order_more z w p x q y (cc) (order p x r q y s (cc))

pub moments_in_order : {A : Type 0} (xs p q : List A) (x y : A) → IsMoment xs p x → IsMoment xs q y → Order p x q y
moments_in_order xs p q x y m n = order p x m.0 q y n.0 (sym m.1 ∙ n.1)

-- Tests.

pub record AnyAt {A : Type 0} (p : A → Bool) (xs : List A) : Type 0 where
  pub past : List A
  pub now : A
  pub stands : IsMoment xs past now
  pub passes : p now ≡ true

any_at_head : {A : Type 0} (p : A → Bool) (x : A) (xs : List A) (b : Bool) → p x ≡ b → (b || list_any p xs) ≡ true → (list_any p xs ≡ true → AnyAt p xs)
    → AnyAt p (x ∷ xs)
any_at_head p x xs true h e rest = record { past = []; now = x; stands = (xs, refl); passes = h }
any_at_head p x xs false h e rest = let r =
    rest e in record { past = x ∷ r.past; now = r.now; stands = (r.stands.0, ap (λ l. x ∷ l) r.stands.1); passes = r.passes }

pub any_at : {A : Type 0} (p : A → Bool) (xs : List A) → list_any p xs ≡ true → AnyAt p xs
any_at p [] e = absurd (cc e)
any_at p (x ∷ xs) e = any_at_head p x xs (p x) refl e (any_at p xs)

pub or-right : (a b : Bool) → b ≡ true → (a || b) ≡ true
or-right true b h = refl
or-right false b h = h

pub list_any-at : {A : Type 0} (p : A → Bool) (past : List A) (x : A) (rest : List A) → p x ≡ true → list_any p (past ++ x ∷ rest) ≡ true
list_any-at p [] x rest h = rw h refl
list_any-at p (y ∷ past) x rest h = or-right (p y) (list_any p (past ++ x ∷ rest)) (list_any-at p past x rest h)

-- Elements.

pub list_all-in : {A : Type 0} (p : A → Bool) (xs : List A) (x : A) → list_all p xs ≡ true → IsElement x xs → p x ≡ true
list_all-in p [] x h i = absurd i
list_all-in p (y ∷ ys) x h (inl e) = rw e (and_parts (p y) (list_all p ys) h).0
list_all-in p (y ∷ ys) x h (inr i) = list_all-in p ys x (and_parts (p y) (list_all p ys) h).1 i

pub and_both : (a b : Bool) → a ≡ true → b ≡ true → (a && b) ≡ true
and_both true b h k = k
and_both false b h k = h

pub list_all-from : {A : Type 0} (p : A → Bool) (xs : List A) → ((x : A) → IsElement x xs → p x ≡ true) → list_all p xs ≡ true
list_all-from p [] h = refl
list_all-from p (x ∷ xs) h = and_both (p x) (list_all p xs) (h x (inl refl)) (list_all-from p xs (λ y i. h y (inr i)))

pub list_any-in : {A : Type 0} (p : A → Bool) (xs : List A) (x : A) → p x ≡ true → IsElement x xs → list_any p xs ≡ true
list_any-in p [] x h i = absurd i
list_any-in p (y ∷ ys) x h (inl e) = rw (← e, h) refl
list_any-in p (y ∷ ys) x h (inr i) = or-right (p y) (list_any p ys) (list_any-in p ys x h i)

pub greatest-in : {A : Type 0} (f : A → ℕ) (xs : List A) (x : A) → IsElement x xs → f x ≤ greatest f xs
greatest-in f [] x i = absurd i
greatest-in f (y ∷ ys) x (inl e) = rw e (omega arith)
greatest-in f (y ∷ ys) x (inr i) = let h = greatest-in f ys x i in omega arith

pub greatest-below : {A : Type 0} (f : A → ℕ) (xs : List A) (n : ℕ) → ((x : A) → IsElement x xs → f x ≤ n) → greatest f xs ≤ n
greatest-below f [] n h = omega arith
greatest-below f (x ∷ xs) n h =
    let a : f x ≤ n = h x (inl refl) in
    let b : greatest f xs ≤ n = greatest-below f xs n (λ y i. h y (inr i)) in
    omega arith

in_filter_head : {A : Type 0} (p : A → Bool) (x y : A) (xs : List A) (b : Bool) → p y ≡ b → (x ≡ y) ⊎ IsElement x (filter p xs) → p x ≡ true
    → IsElement x (cond b (y ∷ filter p xs) (filter p xs))
in_filter_head p x y xs true h i k = i
in_filter_head p x y xs false h (inl e) k = absurd (false≢true (sym h ∙ (ap p (sym e) ∙ k)))
in_filter_head p x y xs false h (inr i) k = i

pub in_filter : {A : Type 0} (p : A → Bool) (x : A) (xs : List A) → IsElement x xs → p x ≡ true → IsElement x (filter p xs)
in_filter p x [] i k = i
in_filter p x (y ∷ xs) (inl e) k = in_filter_head p x y xs (p y) refl (inl e) k
in_filter p x (y ∷ xs) (inr i) k = in_filter_head p x y xs (p y) refl (inr (in_filter p x xs i k)) k

from_filter_head : {A : Type 0} (p : A → Bool) (x y : A) (xs : List A) (b : Bool) → p y ≡ b → IsElement x (cond b (y ∷ filter p xs) (filter p xs))
    → (IsElement x (filter p xs) → IsElement x xs × (p x ≡ true)) → IsElement x (y ∷ xs) × (p x ≡ true)
from_filter_head p x y xs true h (inl e) rest = (inl e, ap p e ∙ h)
from_filter_head p x y xs true h (inr i) rest = (inr (rest i).0, (rest i).1)
from_filter_head p x y xs false h i rest = (inr (rest i).0, (rest i).1)

pub from_filter : {A : Type 0} (p : A → Bool) (x : A) (xs : List A) → IsElement x (filter p xs) → IsElement x xs × (p x ≡ true)
from_filter p x [] i = absurd i
from_filter p x (y ∷ xs) i = from_filter_head p x y xs (p y) refl i (from_filter p x xs)

range_split : (k i n : ℕ) → k ≤ i → i < k + suc n → (i ≡ k) ⊎ (suc k ≤ i)
range_split k i n l h = grind arith

pub in_range_from : (k i n : ℕ) → k ≤ i → i < k + n → IsElement i (range_with_len k n)
in_range_from k i zero l h = absurd (omega arith)
in_range_from k i (suc n) l h = elim (range_split k i n l h) [ inl e ↦ inl e | inr m ↦ inr (in_range_from (k + 1) i n (omega arith) (omega arith)) ]

pub in_range : (i n : ℕ) → i < n → IsElement i (range_with_len 0 n)
in_range i n h = in_range_from 0 i n (omega arith) (omega arith)

pub from_range_from : (k i n : ℕ) → IsElement i (range_with_len k n) → (k ≤ i) × (i < k + n)
from_range_from k i zero h = absurd h
from_range_from k i (suc n) (inl e) = (omega arith, omega arith)
from_range_from k i (suc n) (inr h) = let r = from_range_from (k + 1) i n h in (omega arith, omega arith)

pub from_range : (i n : ℕ) → IsElement i (range_with_len 0 n) → i < n
from_range i n h = let r = from_range_from 0 i n h in omega arith

-- a count above 0 has an element that passes
some_passes_head : {A : Type 0} (p : A → Bool) (x : A) (xs : List A) (b : Bool) → p x ≡ b → (0 < count_by p xs → (y : A) × IsElement y xs × (p y ≡ true))
    → 0 < cond b 1 0 + count_by p xs → (y : A) × IsElement y (x ∷ xs) × (p y ≡ true)
some_passes_head p x xs true h rest l = (x, inl refl, h)
some_passes_head p x xs false h rest l = let r = rest (omega arith) in (r.0, inr r.1, r.2)

pub some_passes : {A : Type 0} (p : A → Bool) (xs : List A) → 0 < count_by p xs → (y : A) × IsElement y xs × (p y ≡ true)
some_passes p [] l = absurd (omega arith)
some_passes p (x ∷ xs) l = some_passes_head p x xs (p x) refl (some_passes p xs) (subst (λ n. 0 < n) (sum_by-cons (λ y. cond (p y) 1 0) x xs) l)

-- a count below the length has an element that doesn't
some_fails_head : {A : Type 0} (p : A → Bool) (x : A) (xs : List A) (b : Bool) → p x ≡ b
    → (count_by p xs < length xs → (y : A) × IsElement y xs × (p y ≡ false)) → cond b 1 0 + count_by p xs < suc (length xs)
    → (y : A) × IsElement y (x ∷ xs) × (p y ≡ false)
some_fails_head p x xs true h rest l = let r = rest (omega arith) in (r.0, inr r.1, r.2)
some_fails_head p x xs false h rest l = (x, inl refl, h)

pub some_fails : {A : Type 0} (p : A → Bool) (xs : List A) → count_by p xs < length xs → (y : A) × IsElement y xs × (p y ≡ false)
some_fails p [] l = absurd (omega arith)
some_fails p (x ∷ xs) l = some_fails_head p x xs (p x) refl (some_fails p xs) (subst (λ n. n < suc (length xs)) (sum_by-cons (λ y. cond (p y) 1 0) x xs) l)

-- Equal parts make equal lists.

pub same_list-true : {A : Type 0} (same : A → A → Bool) → ((x y : A) → same x y ≡ true → x ≡ y) → (xs ys : List A) → same_list same xs ys ≡ true → xs ≡ ys
same_list-true same h [] [] e = refl
same_list-true same h [] (y ∷ ys) e = absurd (cc e)
same_list-true same h (x ∷ xs) [] e = absurd (cc e)
same_list-true same h (x ∷ xs) (y ∷ ys) e =
    let k = and_parts (same x y) (same_list same xs ys) e in
    ap (λ v. v ∷ xs) (h x y k.0) ∙ ap (λ l. y ∷ l) (same_list-true same h xs ys k.1)

pub same_list-refl : {A : Type 0} (same : A → A → Bool) → ((x : A) → same x x ≡ true) → (xs : List A) → same_list same xs xs ≡ true
same_list-refl same h [] = refl
same_list-refl same h (x ∷ xs) = and_both (same x x) (same_list same xs xs) (h x) (same_list-refl same h xs)

some_fails_all_head : {A : Type 0} (p : A → Bool) (x : A) (xs : List A) (b : Bool) → p x ≡ b → (b && list_all p xs) ≡ false
    → (list_all p xs ≡ false → (y : A) × IsElement y xs × (p y ≡ false)) → (y : A) × IsElement y (x ∷ xs) × (p y ≡ false)
some_fails_all_head p x xs true h e rest = let r = rest e in (r.0, inr r.1, r.2)
some_fails_all_head p x xs false h e rest = (x, inl refl, h)

pub some_fails_all : {A : Type 0} (p : A → Bool) (xs : List A) → list_all p xs ≡ false → (y : A) × IsElement y xs × (p y ≡ false)
some_fails_all p [] e = absurd (cc e)
some_fails_all p (x ∷ xs) e = some_fails_all_head p x xs (p x) refl e (some_fails_all p xs)

-- Elements and moments.

pub in_from_moment : {A : Type 0} (past : List A) (x : A) (rest : List A) → IsElement x (past ++ x ∷ rest)
in_from_moment [] x rest = inl refl
in_from_moment (y ∷ past) x rest = inr (in_from_moment past x rest)

pub moment_from_in : {A : Type 0} (xs : List A) (x : A) → IsElement x xs → (past : List A) × IsMoment xs past x
moment_from_in [] x i = absurd i
moment_from_in (y ∷ ys) x (inl e) = ([], (ys, ap (λ z. z ∷ ys) (sym e)))
moment_from_in (y ∷ ys) x (inr i) = let r = moment_from_in ys x i in (y ∷ r.0, (r.1.0, ap (λ l. y ∷ l) r.1.1))

pub in_append : {A : Type 0} (xs ys : List A) (x : A) → IsElement x xs ⊎ IsElement x ys → IsElement x (xs ++ ys)
in_append [] ys x (inl i) = absurd i
in_append [] ys x (inr i) = i
in_append (z ∷ xs) ys x (inl (inl e)) = inl e
in_append (z ∷ xs) ys x (inl (inr i)) = inr (in_append xs ys x (inl i))
in_append (z ∷ xs) ys x (inr i) = inr (in_append xs ys x (inr i))

pub from_append : {A : Type 0} (xs ys : List A) (x : A) → IsElement x (xs ++ ys) → IsElement x xs ⊎ IsElement x ys
from_append [] ys x i = inr i
from_append (z ∷ xs) ys x (inl e) = inl (inl e)
from_append (z ∷ xs) ys x (inr i) = elim (from_append xs ys x i) [ inl j ↦ inl (inr j) | inr j ↦ inr j ]

pub in_whole : {A : Type 0} (b : List (List A)) (a : ℕ) (x : A) → IsElement x (get_or b a []) → IsElement x (flat_map (λ h. h) b)
in_whole [] a x i = absurd i
in_whole (h ∷ b) zero x i = in_append h (flat_map (λ h. h) b) x (inl i)
in_whole (h ∷ b) (suc a) x i = in_append h (flat_map (λ h. h) b) x (inr (in_whole b a x i))

pub from_whole : {A : Type 0} (b : List (List A)) (x : A) → IsElement x (flat_map (λ h. h) b) → (a : ℕ) × (a < length b) × IsElement x (get_or b a [])
from_whole [] x i = absurd i
from_whole (h ∷ b) x i =
    elim (from_append h (flat_map (λ h. h) b) x i) [ inl j ↦ (0, omega arith, j) | inr j ↦ (let r = from_whole b x j in (suc r.0, omega arith, r.2)) ]

pub first_given_answer-in : {A B : Type 0} (f : A → Option B) (xs : List A) (x : A) (y : B) → IsElement x xs → f x ≡ Some y → is_some (first_given_answer f xs) ≡ true
first_given_answer-in f xs x y i e = let m = moment_from_in xs x i in first_given_answer-now f xs m.0 x y m.1 e

-- Tests.

pub or_neither : (a b : Bool) → (a || b) ≡ false → (a ≡ false) × (b ≡ false)
or_neither true b h = absurd (cc h)
or_neither false b h = (refl, h)

pub or-false : (b : Bool) → (b || false) ≡ b
or-false true = refl
or-false false = refl

pub or-true : (b : Bool) → (b || true) ≡ true
or-true true = refl
or-true false = refl

pub and_swap : (a b : Bool) → (a && b) ≡ (b && a)
and_swap true true = refl
and_swap true false = refl
and_swap false true = refl
and_swap false false = refl

pub bool_or : (x : Bool) → (x ≡ true) ⊎ (x ≡ false)
bool_or true = inl refl
bool_or false = inr refl

pub below_or : (m n : ℕ) → (m < n) ⊎ (n ≤ m)
below_or m n = grind arith

no_not : (b : Bool) → not b ≡ true → b ≡ true → ⊥
no_not true e h = cc e
no_not false e h = cc h

pub not-mono : (a b : Bool) → (a ≡ true → b ≡ true) → not b ≡ true → not a ≡ true
not-mono true b h e = absurd (no_not b e (h refl))
not-mono false b h e = refl

-- Counts of elements that pass a test.

pub bit_le : (a b : Bool) → (a ≡ true → b ≡ true) → ◌≤◌ (cond {A = ℕ} a 1 0) (cond {A = ℕ} b 1 0)
bit_le true b h = rw (h refl) (omega arith)
bit_le false b h = omega arith

pub count_le : {A : Type 0} (p q : A → Bool) (xs : List A) → ((x : A) → q x ≡ true → p x ≡ true) → count_by q xs ≤ count_by p xs
count_le p q [] h = omega arith
count_le p q (x ∷ xs) h =
    let e1 : count_by p (x ∷ xs) ≡ cond (p x) 1 0 + count_by p xs = sum_by-cons (λ z. cond (p z) 1 0) x xs in
    let e2 : count_by q (x ∷ xs) ≡ cond (q x) 1 0 + count_by q xs = sum_by-cons (λ z. cond (q z) 1 0) x xs in
    let e3 = bit_le (q x) (p x) (h x) in
    let e4 = count_le p q xs h in
    omega arith

-- where one that passes p doesn't pass q
pub count_less : {A : Type 0} (p q : A → Bool) (xs : List A) → ((x : A) → q x ≡ true → p x ≡ true) → (y : A) → IsElement y xs → p y ≡ true → q y ≡ false
    → count_by q xs + 1 ≤ count_by p xs
count_less p q [] h y i py qy = absurd i
count_less p q (x ∷ xs) h y i py qy =
    let e1 : count_by p (x ∷ xs) ≡ cond (p x) 1 0 + count_by p xs = sum_by-cons (λ z. cond (p z) 1 0) x xs in
    let e2 : count_by q (x ∷ xs) ≡ cond (q x) 1 0 + count_by q xs = sum_by-cons (λ z. cond (q z) 1 0) x xs in
    go i e1 e2 (λ j. count_less p q xs h y j py qy)
  where
    go : (y ≡ x) ⊎ IsElement y xs → count_by p (x ∷ xs) ≡ cond (p x) 1 0 + count_by p xs → count_by q (x ∷ xs) ≡ cond (q x) 1 0 + count_by q xs
        → (IsElement y xs → count_by q xs + 1 ≤ count_by p xs) → count_by q (x ∷ xs) + 1 ≤ count_by p (x ∷ xs)
    go (inl e) e1 e2 again =
        let b1 : ◌≡◌ {A = ℕ} (cond (p x) 1 0) 1 = ap (λ z. cond {A = ℕ} z 1 0) (ap p (sym e) ∙ py) in
        let b2 : ◌≡◌ {A = ℕ} (cond (q x) 1 0) 0 = ap (λ z. cond {A = ℕ} z 1 0) (ap q (sym e) ∙ qy) in
        let b3 = count_le p q xs h in
        omega arith
    go (inr j) e1 e2 again =
        let b1 = bit_le (q x) (p x) (h x) in
        let b2 = again j in
        omega arith

-- First answers.

pub or_else-none : {B : Type 0} (o : Option B) → or_else o None ≡ o
or_else-none None = refl
or_else-none (Some x) = refl

-- an answer leaves out what comes after it
pub or_else-stays : {B : Type 0} (o r : Option B) → is_some o ≡ true → or_else o r ≡ o
or_else-stays None r e = absurd (cc e)
or_else-stays (Some x) r e = refl

pub or_else-skips : {B : Type 0} (o r : Option B) → is_some o ≡ false → or_else o r ≡ r
or_else-skips None r e = refl
or_else-skips (Some x) r e = absurd (cc e)

pub none_of : {B : Type 0} (o : Option B) → is_some o ≡ false → o ≡ None
none_of None e = refl
none_of (Some x) e = absurd (cc e)

pub none_both : {B : Type 0} (o r : Option B) → or_else o r ≡ None → (o ≡ None) × (r ≡ None)
none_both None r e = (refl, e)
none_both (Some y) r e = absurd (cc e)

pub none_in : {A B : Type 0} (f : A → Option B) (xs : List A) (x : A) → first_given_answer f xs ≡ None → IsElement x xs → f x ≡ None
none_in f [] x e i = absurd i
none_in f (y ∷ xs) x e (inl q) = ap f q ∙ (none_both (f y) (first_given_answer f xs) e).0
none_in f (y ∷ xs) x e (inr i) = none_in f xs x (none_both (f y) (first_given_answer f xs) e).1 i

-- Images, places and ranges.

pub in_place : {A : Type 0} (xs : List A) (k : ℕ) (d : A) → k < length xs → IsElement (get_or xs k d) xs
in_place [] k d lt = absurd (omega arith)
in_place (x ∷ xs) zero d lt = inl refl
in_place (x ∷ xs) (suc k) d lt = inr (in_place xs k d (omega arith))

pub in_map : {A B : Type 0} (f : A → B) (xs : List A) (x : A) → IsElement x xs → IsElement (f x) (map f xs)
in_map f [] x i = i
in_map f (y ∷ xs) x (inl e) = inl (ap f e)
in_map f (y ∷ xs) x (inr i) = inr (in_map f xs x i)

pub in_flat_map : {A B : Type 0} (f : A → List B) (xs : List A) (x : A) (y : B) → IsElement x xs → IsElement y (f x) → IsElement y (flat_map f xs)
in_flat_map f [] x y i j = absurd i
in_flat_map f (z ∷ xs) x y (inl e) j = in_append (f z) (flat_map f xs) y (inl (subst (λ w. IsElement y (f w)) e j))
in_flat_map f (z ∷ xs) x y (inr i) j = in_append (f z) (flat_map f xs) y (inr (in_flat_map f xs x y i j))

pub length-range : (k n : ℕ) → length (range_with_len k n) ≡ n
length-range k zero = refl
length-range k (suc n) = ap suc (length-range (k + 1) n)

pub range-next : (a n : ℕ) → a < n → range_with_len a (n - a) ≡ a ∷ range_with_len (a + 1) (n - (a + 1))
range-next a n lt = let e : n - a ≡ suc (n - (a + 1)) = omega arith in ap (range_with_len a) e

pub range-none : (a n : ℕ) → n ≤ a → range_with_len a (n - a) ≡ []
range-none a n le = let e : n - a ≡ 0 = omega arith in ap (range_with_len a) e
