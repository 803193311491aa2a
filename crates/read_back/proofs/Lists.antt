-- Lists that are walked, looked through and put side by side.
use Rattle.std.proofs.Common.{◌≡◌, ◌||◌, inl, inr, ◌+◌, ◌<◌, ℕ, suc, Bool, true, false, cond, List, [], ◌∷◌, ◌++◌, length, map, get_or, position, Option}
use Rattle.std.proofs.Common.{Some, None, unwrap_or, Result, Ok, refl, sym, ap, ap₂, ◌∙◌, subst, arith, append_assoc, append-nil}
use Rattle.std.specs.Prelude.{zip}
use Rattle.std.specs.List.{list_any, position_from}
use Rattle.std.specs.List.Sorted.{IsStrictlyIncreasing}
use Rattle.std.proofs.lemmas.Iterator.Adapters.{position_from-zero}
use Rattle.std.proofs.lemmas.List.{get_or_append_left, length-append, map-append}
use Rattle.std.proofs.Math.Seq.{get_or-append_seam}
use Rattle.swap_base.specs.Fault.{steps}
use Rattle.swap_base.specs.Lists.{IsElement}
use Rattle.command_input.specs.declared.reason.Reason.{Reason}
use Rattle.swap_clear.proofs.Places.{rises}
use Rattle.read_back.proofs.Steps.{step}

-- ---- tests

-- none of the list passes
pub none_passes : {A B : Type 0} (f : B → Bool) (g : A → B) (xs : List A) → ((x : A) → IsElement x xs → f (g x) ≡ false) → list_any f (map g xs) ≡ false
none_passes f g [] h = refl
none_passes f g (x ∷ xs) h = rw (h x (inl refl)) (none_passes f g xs (λ y i. h y (inr i)))

-- the first that passes, by another test of what the list is made of
pub same_position : {A B : Type 0} (f : B → Bool) (g : A → B) (h : A → Bool) (xs : List A) (n : ℕ) → ((x : A) → IsElement x xs → f (g x) ≡ h x)
    → position_from f n (map g xs) ≡ position_from h n xs
same_position f g h [] n e = refl
same_position f g h (x ∷ xs) n e =
    ap₂ (λ (b : Bool) (o : Option ℕ). cond b (Some n) o) (e x (inl refl)) (same_position f g h xs (n + 1) (λ y i. e y (inr i)))

-- one passes, so that there is a first
some_first : (b r : Bool) (n : ℕ) (o : Option ℕ) → (r ≡ true → o ≡ None → ⊥) → (b || r) ≡ true → cond b (Some n) o ≡ None → ⊥
some_first true r n o h t e = cc e
some_first false r n o h t e = h t e

is_somewhere : {A : Type 0} (f : A → Bool) (xs : List A) (n : ℕ) → list_any f xs ≡ true → position_from f n xs ≡ None → ⊥
is_somewhere f [] n t e = cc t
is_somewhere f (x ∷ xs) n t e = some_first (f x) (list_any f xs) n (position_from f (n + 1) xs) (is_somewhere f xs (n + 1)) t e

is_given : (o : Option ℕ) → (o ≡ None → ⊥) → o ≡ Some (unwrap_or o 0)
is_given None h = absurd (h refl)
is_given (Some k) h = refl

pub position_is : {A : Type 0} (f : A → Bool) (xs : List A) → list_any f xs ≡ true → position f xs ≡ Some (unwrap_or (position f xs) 0)
position_is f xs t = is_given (position f xs) (λ e. is_somewhere f xs 0 t (sym (position_from-zero f xs) ∙ e))

-- ---- walks

-- a walk that puts one more at each step
pub puts_each : {A B C : Type 0} (f : List B → A → Result (List B) Reason) (r : C → A) (g : C → B) (before after : List C)
    → ((past : List C) (x : C) (rest : List C) → before ++ after ≡ past ++ x ∷ rest → f (map g past) (r x) ≡ Ok (map g past ++ g x ∷ []))
    → steps f (map g before) (map r after) ≡ Ok (map g (before ++ after))
unfolding steps
puts_each {C = C} f r g before [] h = ap (λ (l : List C). Ok (map g l)) (sym (append-nil before))
puts_each {B = B} {C = C} f r g before (x ∷ after) h =
    step (f (map g before) (r x)) (map g before ++ g x ∷ []) (λ t. steps f t (map r after)) (h before x after refl)
    ∙ ap (λ (l : List B). steps f l (map r after)) (sym (map-append g before (x ∷ [])))
    ∙ puts_each f r g (before ++ x ∷ []) after (λ past y rest e. h past y rest (sym (append_assoc before (x ∷ []) after) ∙ e))
    ∙ ap (λ (l : List C). Ok (map g l)) (append_assoc before (x ∷ []) after)

-- ---- lists in order

at_place : (xs : List ℕ) (y : ℕ) → IsElement y xs → (j : ℕ) × (j < length xs) × (get_or xs j 0 ≡ y)
at_place [] y i = absurd i
at_place (x ∷ xs) y (inl e) = (0, omega arith, sym e)
at_place (x ∷ xs) y (inr i) = let r = at_place xs y i in (suc r.0, (let lt = r.1 in omega (arith, lt)), r.2)

rises_to : (past : List ℕ) (x : ℕ) (rest : List ℕ) → IsStrictlyIncreasing (past ++ x ∷ rest) → (y : ℕ) → IsElement y past → y < x
rises_to past x rest up y i =
    let at = at_place past y i in
    let lt : at.0 < length past = at.1 in
    let size : length (past ++ x ∷ rest) ≡ length past + length (x ∷ rest) = length-append past (x ∷ rest) in
    let less = rises (past ++ x ∷ rest) up at.0 (length past) lt (omega (arith, size)) in
    let left : get_or (past ++ x ∷ rest) at.0 0 ≡ y = get_or_append_left past (x ∷ rest) 0 at.0 lt ∙ at.2 in
    let right : get_or (past ++ x ∷ rest) (length past) 0 ≡ x = get_or-append_seam past x rest 0 in
    omega (arith, less, left, right)

-- what stands before x in a list in order is less
pub is_less : (xs past : List ℕ) (x : ℕ) (rest : List ℕ) → IsStrictlyIncreasing xs → xs ≡ past ++ x ∷ rest → (y : ℕ) → IsElement y past → y < x
is_less xs past x rest up e = rises_to past x rest (subst IsStrictlyIncreasing e up)

-- ---- pairs

pub firsts : {A B : Type 0} (ps : List A) (ts : List B) → length ts ≡ length ps → map (λ (z : A × B). z.0) (zip ps ts) ≡ ps
firsts [] ts e = refl
firsts (p ∷ ps) [] e = absurd (omega (arith, e))
firsts {A = A} (p ∷ ps) (t ∷ ts) e = ap (λ (l : List A). p ∷ l) (firsts ps ts (omega (arith, e)))

pub first_in : {A B : Type 0} (ps : List A) (ts : List B) (z : A × B) → IsElement z (zip ps ts) → IsElement z.0 ps
first_in [] ts z i = absurd i
first_in (p ∷ ps) [] z i = absurd i
first_in (p ∷ ps) (t ∷ ts) z (inl e) = inl (ap (λ (y : _ × _). y.0) e)
first_in (p ∷ ps) (t ∷ ts) z (inr i) = inr (first_in ps ts z i)

pub second_in : {A B : Type 0} (ps : List A) (ts : List B) (z : A × B) → IsElement z (zip ps ts) → IsElement z.1 ts
second_in [] ts z i = absurd i
second_in (p ∷ ps) [] z i = absurd i
second_in (p ∷ ps) (t ∷ ts) z (inl e) = inl (ap (λ (y : _ × _). y.1) e)
second_in (p ∷ ps) (t ∷ ts) z (inr i) = inr (second_in ps ts z i)

pub pairs_long : {A B : Type 0} (ps : List A) (ts : List B) → length ts ≡ length ps → length (zip ps ts) ≡ length ps
pairs_long [] ts e = refl
pairs_long (p ∷ ps) [] e = absurd (omega (arith, e))
pairs_long (p ∷ ps) (t ∷ ts) e = ap (λ (n : ℕ). suc n) (pairs_long ps ts (omega (arith, e)))

-- two lists of one length give as many copies of c
pub as_many : {A B C : Type 0} (c : C) (xs : List A) (ys : List B) → length xs ≡ length ys → map (λ x. c) xs ≡ map (λ y. c) ys
as_many c [] [] e = refl
as_many c [] (y ∷ ys) e = absurd (omega (arith, e))
as_many c (x ∷ xs) [] e = absurd (omega (arith, e))
as_many {C = C} c (x ∷ xs) (y ∷ ys) e = ap (λ (l : List C). c ∷ l) (as_many c xs ys (omega (arith, e)))

-- a function of each of a list of answers
pub twice : {A B C : Type 0} (f : B → C) (g : A → B) (xs : List A) → map f (map g xs) ≡ map (λ x. f (g x)) xs
twice f g [] = refl
twice {C = C} f g (x ∷ xs) = ap (λ (ys : List C). f (g x) ∷ ys) (twice f g xs)

pub same_map : {A B : Type 0} (f g : A → B) (xs : List A) → ((x : A) → IsElement x xs → f x ≡ g x) → map f xs ≡ map g xs
same_map f g [] h = refl
same_map {B = B} f g (x ∷ xs) h = ap₂ (λ (y : B) (ys : List B). y ∷ ys) (h x (inl refl)) (same_map f g xs (λ y i. h y (inr i)))
