-- A name among names.
use Rattle.std.proofs.Common.{◌≡◌, ℕ, zero, suc, ◌+◌, ◌<◌, Bool, true, false, ◌||◌, if◌then◌else◌, is_some, cond, List, [], ◌∷◌, length, get_or, drop, Option, Some, refl}
use Rattle.std.proofs.Common.{sym, ap, ◌∙◌, arith, drop-cons, add-one}
use Rattle.std.specs.Str.{bytes_eq}
use Rattle.std.specs.List.{list_any}
use Rattle.std.specs.Prelude.{IfOk, Result, Ok, Err}
use Rattle.std.proofs.lemmas.Slice.Eq.{bytes_eq-Decides}
use Rattle.swap_job.specs.Names.{named_item}

from_here : {A : Type 0} (xs : List A) (n : ℕ) (x : A) → n < length xs → x ≡ get_or xs n x → drop n xs ≡ x ∷ drop (n + 1) xs
from_here xs n x l is = rw (add-one, drop-cons xs n x l, ← is) refl

-- the first names that are left, with their items
split : {A : Type 0} (name : List ℕ) (names : List (List ℕ)) (xs : List A) (i : ℕ) (n : List ℕ) (x : A) → i < length names → i < length xs
    → n ≡ get_or names i n → x ≡ get_or xs i x
    → named_item name (drop i names) (drop i xs) ≡ cond (bytes_eq n name) (Some x) (named_item name (drop (i + 1) names) (drop (i + 1) xs))
split {A = A} name names xs i n x ln lx isn isx =
    ap (λ ms. named_item name ms (drop i xs)) (from_here names i n ln isn)
    ∙ ap (λ (ys : List A). named_item name (n ∷ drop (i + 1) names) ys) (from_here xs i x lx isx)

pub found : {A : Type 0} (name : List ℕ) (names : List (List ℕ)) (xs : List A) (i : ℕ) (n : List ℕ) (x : A) (whole : Option A) → i < length names
    → i < length xs → n ≡ get_or names i n → x ≡ get_or xs i x → bytes_eq n name ≡ true
    → named_item name (drop i names) (drop i xs) ≡ whole → Some x ≡ whole
found name names xs i n x whole ln lx isn isx e so_far =
    sym (split name names xs i n x ln lx isn isx ∙ ap (λ b. cond b (Some x) (named_item name (drop (i + 1) names) (drop (i + 1) xs))) e) ∙ so_far

pub passed : {A : Type 0} (name : List ℕ) (names : List (List ℕ)) (xs : List A) (i : ℕ) (n : List ℕ) (x : A) (whole : Option A) → i < length names
    → i < length xs → n ≡ get_or names i n → x ≡ get_or xs i x → bytes_eq n name ≡ false
    → named_item name (drop i names) (drop i xs) ≡ whole → named_item name (drop (i + 1) names) (drop (i + 1) xs) ≡ whole
passed name names xs i n x whole ln lx isn isx e so_far =
    sym (split name names xs i n x ln lx isn isx ∙ ap (λ b. cond b (Some x) (named_item name (drop (i + 1) names) (drop (i + 1) xs))) e) ∙ so_far

-- the item in a place that is there
pub in_place : {A : Type 0} (xs : List A) (i : ℕ) → i < length xs → (x : A) × (x ≡ get_or xs i x)
in_place [] i l = absurd (omega arith)
in_place (x ∷ xs) zero l = (x, refl)
in_place (x ∷ xs) (suc i) l = in_place xs i (omega arith)

-- A kit has a strategy of each of its names.

same_either_way : (n name : List ℕ) → bytes_eq n name ≡ bytes_eq name n
same_either_way n name = by (bytes_eq n name) (bytes_eq name n) refl refl
  where
    by : (b c : Bool) → bytes_eq n name ≡ b → bytes_eq name n ≡ c → b ≡ c
    by true true e f = refl
    by false false e f = refl
    by true false e f = absurd (cc (sym f ∙ (bytes_eq-Decides name n).1 (sym ((bytes_eq-Decides n name).0 e))))
    by false true e f = absurd (cc (sym e ∙ (bytes_eq-Decides n name).1 (sym ((bytes_eq-Decides name n).0 f))))

is_had : {A : Type 0} (names : List (List ℕ)) (xs : List A) → length names ≡ length xs → (name : List ℕ)
    → list_any (bytes_eq name) names ≡ is_some (named_item name names xs)
is_had [] xs paired name = refl
is_had (n ∷ names) [] paired name = absurd (omega (arith, paired))
is_had {A = A} (n ∷ names) (x ∷ xs) paired name = rw (← same_either_way n name) (by (bytes_eq n name) (is_had names xs (omega (arith, paired)) name))
  where
    by : (b : Bool) → list_any (bytes_eq name) names ≡ is_some (named_item name names xs)
        → (b || list_any (bytes_eq name) names) ≡ is_some (if b then Some x else named_item name names xs)
    by true rest = refl
    by false rest = rest

-- the names that are told are those of its strategies
pub all_had : {A E : Type 0} (names : List (List ℕ)) (xs : List A) → length names ≡ length xs → (told : Result (List (List ℕ)) E)
    → IfOk told (λ ns. ns ≡ names) → IfOk told (λ ns. (name : List ℕ) → list_any (bytes_eq name) ns ≡ is_some (named_item name names xs))
all_had names xs paired (Ok ns) e = λ name. ap (list_any (bytes_eq name)) e ∙ is_had names xs paired name
all_had names xs paired (Err e) h = tt
