-- Loops over lists and over ranges of numbers.
use Rattle.std.proofs.Common.{◌≡◌, ℕ, ◌+◌, ◌-◌, ◌<◌, ◌≤◌, max, true, false, List, [], ◌∷◌, length, get_or, drop, Option, None, is_some, refl}
use Rattle.std.proofs.Common.{sym, ap, ◌∙◌, arith, add-one, drop-cons}
use Rattle.std.specs.List.{range_with_len}
use Rattle.std.proofs.lemmas.List.{nil_from_length, length-drop}
use Rattle.swap_base.specs.Lists.{first_given_answer, greatest}
use Rattle.swap_base.proofs.Lists.{range-next, range-none, or_else-skips, or_else-stays}

pub drop-next : {A : Type 0} (xs : List A) (i : ℕ) (d : A) → i < length xs → drop i xs ≡ get_or xs i d ∷ drop (i + 1) xs
drop-next xs i d lt = rw (add-one, drop-cons xs i d) refl

pub drop-none : {A : Type 0} (xs : List A) (i : ℕ) → length xs ≤ i → drop i xs ≡ []
drop-none xs i le = nil_from_length (drop i xs) (omega (arith, length-drop i xs))

-- The greatest value.

pub greatest_goes_on : {A : Type 0} (f : A → ℕ) (xs : List A) (i : ℕ) (d : A) (m n total : ℕ) → i < length xs → n ≡ max m (f (get_or xs i d))
    → max m (greatest f (drop i xs)) ≡ total → max n (greatest f (drop (i + 1) xs)) ≡ total
greatest_goes_on f xs i d m n total lt e so_far =
    let k : greatest f (drop i xs) ≡ max (f (get_or xs i d)) (greatest f (drop (i + 1) xs)) = ap (greatest f) (drop-next xs i d lt) in
    omega (arith, k, e, so_far)

pub greatest_is_all : {A : Type 0} (f : A → ℕ) (xs : List A) (i m total : ℕ) → length xs ≤ i → max m (greatest f (drop i xs)) ≡ total → m ≡ total
greatest_is_all f xs i m total le so_far =
    let k : greatest f (drop i xs) ≡ 0 = ap (greatest f) (drop-none xs i le) in
    omega (arith, k, so_far)

pub greatest_none : (m : ℕ) → max 0 m ≡ m
greatest_none m = omega arith

-- The first answer along a range of numbers.

pub first_goes_on : {B : Type 0} (f : ℕ → Option B) (a n : ℕ) (total : Option B) → a < n → is_some (f a) ≡ false
    → first_given_answer f (range_with_len a (n - a)) ≡ total → first_given_answer f (range_with_len (a + 1) (n - (a + 1))) ≡ total
first_goes_on f a n total lt none so_far =
    sym (ap (first_given_answer f) (range-next a n lt) ∙ or_else-skips (f a) (first_given_answer f (range_with_len (a + 1) (n - (a + 1)))) none) ∙ so_far

pub first_is_found : {B : Type 0} (f : ℕ → Option B) (a n : ℕ) (total : Option B) → a < n → is_some (f a) ≡ true
    → first_given_answer f (range_with_len a (n - a)) ≡ total → f a ≡ total
first_is_found f a n total lt some so_far =
    sym (ap (first_given_answer f) (range-next a n lt) ∙ or_else-stays (f a) (first_given_answer f (range_with_len (a + 1) (n - (a + 1)))) some) ∙ so_far

pub first_is_none : {B : Type 0} (f : ℕ → Option B) (a n : ℕ) (total : Option B) → n ≤ a → first_given_answer f (range_with_len a (n - a)) ≡ total → None ≡ total
first_is_none f a n total le so_far = sym (ap (first_given_answer f) (range-none a n le)) ∙ so_far
