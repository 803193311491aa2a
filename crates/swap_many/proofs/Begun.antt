-- What many swaps begin with, account by account and chain by chain.
use Rattle.std.proofs.Common.{◌≡◌, ℕ, suc, zero, ◌+◌, ◌-◌, ◌<◌, ◌≤◌, Bool, cond, List, [], ◌∷◌, ◌++◌, length, map, sum_by, take}
use Rattle.std.proofs.Common.{Option, Some, None, refl, sym, ap, ap₂, ◌∙◌, arith, get_or, lt-ltb, le-ltb}
use Rattle.std.specs.List.{range_with_len}
use Rattle.std.proofs.lemmas.List.{take_more, map-append}
use Rattle.std.proofs.lemmas.List.Sums.{sum_by_push, sum_by-cons}
use Rattle.swap_base.specs.Lists.{first_given_answer, or_else}
use Rattle.swap_base.proofs.Lists.{first_given_answer-append, first_given_answer-front}
use Rattle.swap_many.specs.declared.overdrawn.Overdrawn.{Overdrawn}
use Rattle.swap_many.specs.Chains.{Setup, set_aside, opening_units, first_free}
use Rattle.std.proofs.Common.{Result, Ok, Err, slice_index_or, ◌^◌}
use Rattle.std.proofs.lemmas.List.Sums.{sum-map}
use Rattle.swap_base.specs.Fault.{Fails}
use Rattle.swap_base.specs.declared.fault.Fault.{Fault}
use Rattle.swap_base.specs.declared.fault.Fault.TheVariants.{Refused, NoMemory}
use Rattle.swap_many.specs.Opened.{account_lack, chain_lack, overdrawn}
use Rattle.swap_many.specs.Opening.{opened_or}
use Rattle.swap_many.proofs.Emptied.{list_sum}

range_join : (a j m : ℕ) → range_with_len a (j + m) ≡ range_with_len a j ++ range_with_len (a + j) m
range_join a zero m =
    let z : 0 + m ≡ m = omega arith in
    let y : a + 0 ≡ a = omega arith in
    ap (range_with_len a) z ∙ sym (ap (λ k. range_with_len k m) y)
range_join a (suc j) m =
    let z : suc j + m ≡ suc (j + m) = omega arith in
    let y : (a + 1) + j ≡ a + suc j = omega arith in
    ap (range_with_len a) z ∙ (ap (λ (xs : List ℕ). a ∷ xs) (range_join (a + 1) j m)
    ∙ ap (λ k. (a ∷ range_with_len (a + 1) j) ++ range_with_len k m) y)

range_end : (k : ℕ) → range_with_len 0 (k + 1) ≡ range_with_len 0 k ++ k ∷ []
range_end k = let z : 0 + k ≡ k = omega arith in range_join 0 k 1 ∙ ap (λ j. range_with_len 0 k ++ j ∷ []) z

-- Sums.

pub sum_next : (f : ℕ → ℕ) (k old more : ℕ) → old ≡ sum_by f (range_with_len 0 k) → more ≡ f k → old + more ≡ sum_by f (range_with_len 0 (k + 1))
sum_next f k old more e h = ap₂ (λ x y. x + y) e h ∙ sym (ap (sum_by f) (range_end k) ∙ sum_by_push f (range_with_len 0 k) k)

pub sum_below : {A : Type 0} (f g : A → ℕ) (xs : List A) → ((x : A) → f x ≤ g x) → sum_by f xs ≤ sum_by g xs
sum_below f g [] h = omega arith
sum_below f g (x ∷ xs) h =
    let a = sum_by-cons f x xs in
    let b = sum_by-cons g x xs in
    let c = sum_below f g xs h in
    let d = h x in
    omega (arith, a, b, c, d)

-- The first answer along the numbers.

pub first_next : {B : Type 0} (f : ℕ → Option B) (k : ℕ) → first_given_answer f (range_with_len 0 k) ≡ None → f k ≡ None → first_given_answer f (range_with_len 0 (k + 1)) ≡ None
first_next f k none e =
    ap (first_given_answer f) (range_end k) ∙ (first_given_answer-append f (range_with_len 0 k) (k ∷ [])
    ∙ (ap (λ o. or_else o (or_else (f k) None)) none ∙ ap (λ o. or_else o None) e))

pub first_here : {B : Type 0} (f : ℕ → Option B) (n k : ℕ) (y : B) → k < n → first_given_answer f (range_with_len 0 k) ≡ None → f k ≡ Some y
    → first_given_answer f (range_with_len 0 n) ≡ Some y
first_here f n k y l none e =
    let z : n ≡ (k + 1) + (n - (k + 1)) = omega arith in
    ap (λ j. first_given_answer f (range_with_len 0 j)) z ∙ (ap (first_given_answer f) (range_join 0 (k + 1) (n - (k + 1)))
    ∙ first_given_answer-front f (range_with_len 0 (k + 1)) (range_with_len (0 + (k + 1)) (n - (k + 1))) y
    (ap (first_given_answer f) (range_end k) ∙ (first_given_answer-append f (range_with_len 0 k) (k ∷ [])
    ∙ (ap (λ o. or_else o (or_else (f k) None)) none ∙ ap (λ o. or_else o None) e))))

-- What an account lacks.

pub lacks : (m : Setup) (i x : ℕ) → opening_units m i x < set_aside m i x
    → account_lack m i x ≡ Some (record { chain = i; account = x; have = opening_units m i x; wanted = set_aside m i x })
lacks m i x l =
    ap (λ (b : Bool). cond {A = Option Overdrawn} b (Some (record { chain = i; account = x; have = opening_units m i x; wanted = set_aside m i x })) None)
    (lt-ltb (opening_units m i x) (set_aside m i x) l)

pub lacks_none : (m : Setup) (i x : ℕ) → set_aside m i x ≤ opening_units m i x → account_lack m i x ≡ None
lacks_none m i x l =
    ap (λ (b : Bool). cond {A = Option Overdrawn} b (Some (record { chain = i; account = x; have = opening_units m i x; wanted = set_aside m i x })) None)
    (le-ltb (opening_units m i x) (set_aside m i x) l)

-- one more of a list that is made place by place
pub map_next : {A B : Type 0} (f : A → B) (xs : List A) (k : ℕ) (d : A) (old new : List B) → k < length xs → new ≡ old ++ f (get_or xs k d) ∷ []
    → old ≡ map f (take k xs) → new ≡ map f (take (k + 1) xs)
map_next f xs k d old new l e so_far =
    e ∙ (ap (λ ys. ys ++ f (get_or xs k d) ∷ []) so_far
    ∙ sym (ap (map f) (take_more xs k d l) ∙ map-append f (take k xs) (get_or xs k d ∷ [])))

-- Chains, or the first lack.

pub was_opened : {A : Type 0} (o : Option Overdrawn) (x y : A) → opened_or o x ≡ Ok y → (o ≡ None) × (y ≡ x)
was_opened None x y e = (refl, sym (same_Ok e))
  where
    same_Ok : {A E : Type 0} {a b : A} → ◌≡◌ {A = Result A E} (Ok a) (Ok b) → a ≡ b
    same_Ok e = cc e
was_opened (Some l) x y e = absurd (cc e)

pub was_refused : {A : Type 0} (o : Option Overdrawn) (x : A) (l : Overdrawn) → opened_or o x ≡ Err l → o ≡ Some l
was_refused None x l e = absurd (cc e)
was_refused (Some k) x l e = cc e

pub fails_on : {A B : Type 0} (m : Setup) (i : ℕ) (x : A) (y : B) (fault : Fault Overdrawn) → i < length m.chains
    → first_given_answer (chain_lack m) (range_with_len 0 i) ≡ None → Fails fault (opened_or (chain_lack m i) x) → Fails fault (opened_or (overdrawn m) y)
fails_on m i x y NoMemory l none e = e
fails_on m i x y (Refused lack) l none e =
    ap (λ o. opened_or o y) (first_here (chain_lack m) (length m.chains) i lack l none (was_refused (chain_lack m i) x lack e))

-- what is free is no more than the opening units
pub free_fits : (m : Setup) (i n : ℕ) (xs : List ℕ) → n ≡ length (slice_index_or m.chains i []) → xs ≡ map (first_free m i) (range_with_len 0 n)
    → sum_by (λ u. u) (slice_index_or m.chains i []) ≤ 10 ^ 18 → sum_by (λ u. u) xs ≤ 10 ^ 18
free_fits m i n xs e is l =
    let a : sum_by (λ u. u) xs ≡ sum_by (first_free m i) (range_with_len 0 n) = ap (sum_by (λ u. u)) is ∙ sum-map (first_free m i) (range_with_len 0 n) in
    let b = sum_below (first_free m i) (opening_units m i) (range_with_len 0 n) (λ x. less (opening_units m i x) (set_aside m i x)) in
    let d : sum_by (opening_units m i) (range_with_len 0 n) ≡ sum_by (λ u. u) (slice_index_or m.chains i []) =
    ap (λ k. sum_by (opening_units m i) (range_with_len 0 k)) e ∙ list_sum (slice_index_or m.chains i []) in
    omega (arith, a, b, d, l)
  where
    less : (p q : ℕ) → p - q ≤ p
    less p q = omega arith
