-- Tests of lists, and of the numbers below n.
use Rattle.std.proofs.Common.{◌≡◌, ◌⊎◌, ℕ, ◌+◌, ◌<◌, ◌==◌, Bool, true, false, cond, ◌||◌, List, [], ◌∷◌, filter, refl, sym, ap, ◌∙◌, inl, inr, arith}
use Rattle.std.proofs.Common.{eqb-true, eq-eqb, get_or, length}
use Rattle.std.proofs.lemmas.Bool.{both_ways}
use Rattle.std.proofs.lemmas.List.FromFn.{length-range_with_len, get_or-range_with_len}
use Rattle.std.proofs.lemmas.List.Kept.{IsStrictlyIncreasing-filter}
use Rattle.std.specs.List.{list_any, list_all, range_with_len}
use Rattle.std.specs.List.Sorted.{IsStrictlyIncreasing}
use Rattle.swap_base.specs.Lists.{IsElement}
use Rattle.swap_base.proofs.Lists.{list_any-in, list_all-in, list_all-from, in_range, from_range, in_filter, from_filter}
use Rattle.swap_digraph.specs.Graph.{is_listed}

pub or_split : (a b : Bool) → (a || b) ≡ true → (a ≡ true) ⊎ (b ≡ true)
or_split true b h = inl refl
or_split false b h = inr h

pub or-left : (a b : Bool) → a ≡ true → (a || b) ≡ true
or-left true b h = refl
or-left false b h = absurd (cc h)

-- two tests agree where each follows from the other
pub same_test : (a b : Bool) → (a ≡ true → b ≡ true) → (b ≡ true → a ≡ true) → a ≡ b
same_test true b f g = sym (f refl)
same_test false true f g = g refl
same_test false false f g = refl

-- an element that passes
pub record Passing {A : Type 0} (p : A → Bool) (xs : List A) : Type 0 where
  pub one : A
  pub stands : IsElement one xs
  pub passes : p one ≡ true

passing_head : {A : Type 0} (p : A → Bool) (x : A) (xs : List A) → (p x ≡ true) ⊎ (list_any p xs ≡ true) → (list_any p xs ≡ true → Passing p xs)
    → Passing p (x ∷ xs)
passing_head p x xs (inl e) rest = record { one = x; stands = inl refl; passes = e }
passing_head p x xs (inr e) rest = let r = rest e in record { one = r.one; stands = inr r.stands; passes = r.passes }

pub passing : {A : Type 0} (p : A → Bool) (xs : List A) → list_any p xs ≡ true → Passing p xs
passing p [] h = absurd (cc h)
passing p (x ∷ xs) h = passing_head p x xs (or_split (p x) (list_any p xs) h) (passing p xs)

-- an element that fails
pub record Failing {A : Type 0} (p : A → Bool) (xs : List A) : Type 0 where
  pub one : A
  pub stands : IsElement one xs
  pub fails : p one ≡ false

failing_head : {A : Type 0} (p : A → Bool) (x : A) (xs : List A) (b : Bool) → p x ≡ b → list_all p (x ∷ xs) ≡ false
    → (list_all p xs ≡ false → Failing p xs) → Failing p (x ∷ xs)
failing_head p x xs false e h rest = record { one = x; stands = inl refl; fails = e }
failing_head p x xs true e h rest = let r = rest (rw e at h) in record { one = r.one; stands = inr r.stands; fails = r.fails }

pub failing : {A : Type 0} (p : A → Bool) (xs : List A) → list_all p xs ≡ false → Failing p xs
failing p [] h = absurd (cc h)
failing p (x ∷ xs) h = failing_head p x xs (p x) refl h (failing p xs)

-- one failure fails the whole
pub list_all-fails : {A : Type 0} (p : A → Bool) (xs : List A) (x : A) (b : Bool) → list_all p xs ≡ b → IsElement x xs → p x ≡ false → list_all p xs ≡ false
list_all-fails p xs x false h i e = h
list_all-fails p xs x true h i e = absurd (both_ways (p x) e (list_all-in p xs x h i))

-- equal tests keep equal lists
pub filter-same : (p q : ℕ → Bool) (xs : List ℕ) → ((x : ℕ) → IsElement x xs → p x ≡ q x) → filter p xs ≡ filter q xs
filter-same p q [] h = refl
filter-same p q (x ∷ xs) h =
    ap (λ (b : Bool). cond b (x ∷ filter p xs) (filter p xs)) (h x (inl refl))
    ∙ ap (λ (ys : List ℕ). cond (q x) (x ∷ ys) ys) (filter-same p q xs (λ y i. h y (inr i)))

pub list_all-same : (p q : ℕ → Bool) (xs : List ℕ) → ((x : ℕ) → IsElement x xs → p x ≡ q x) → list_all p xs ≡ list_all q xs
list_all-same p q [] h = refl
list_all-same p q (x ∷ xs) h = rw (h x (inl refl), list_all-same p q xs (λ y i. h y (inr i))) refl

-- Of the numbers below n, those that pass.

pub among_where : (p : ℕ → Bool) (n v : ℕ) → v < n → p v ≡ true → is_listed v (filter p (range_with_len 0 n)) ≡ true
among_where p n v lt e = list_any-in (λ w. w == v) (filter p (range_with_len 0 n)) v (eq-eqb v v refl) (in_filter p v (range_with_len 0 n) (in_range v n lt) e)

pub where_among : (p : ℕ → Bool) (n v : ℕ) → is_listed v (filter p (range_with_len 0 n)) ≡ true → (v < n) × (p v ≡ true)
where_among p n v h =
    let r = passing (λ w. w == v) (filter p (range_with_len 0 n)) h in
    let e : r.one ≡ v = eqb-true r.one v r.passes in
    let f = from_filter p r.one (range_with_len 0 n) r.stands in
    (let lt : r.one < n = from_range r.one n f.0 in omega arith, ap p (sym e) ∙ f.1)

range_ascends : (n : ℕ) → IsStrictlyIncreasing (range_with_len 0 n)
range_ascends n k within =
    let l : length (range_with_len 0 n) ≡ n = length-range_with_len 0 n in
    let a : get_or (range_with_len 0 n) k 0 ≡ 0 + k = get_or-range_with_len 0 n k 0 (omega arith) in
    let b : get_or (range_with_len 0 n) (k + 1) 0 ≡ 0 + (k + 1) = get_or-range_with_len 0 n (k + 1) 0 (omega arith) in
    omega arith

pub where_ascends : (p : ℕ → Bool) (n : ℕ) → IsStrictlyIncreasing (filter p (range_with_len 0 n))
where_ascends p n = IsStrictlyIncreasing-filter p (range_with_len 0 n) (range_ascends n)

split_below : (y v : ℕ) → y < v + 1 → (y ≡ v) ⊎ (y < v)
split_below y v lt = grind arith

pub list_all-more : (p : ℕ → Bool) (v : ℕ) → list_all p (range_with_len 0 v) ≡ true → p v ≡ true → list_all p (range_with_len 0 (v + 1)) ≡ true
list_all-more p v h e = list_all-from p (range_with_len 0 (v + 1)) (λ y i. by_place y (split_below y v (from_range y (v + 1) i)))
  where
    by_place : (y : ℕ) → (y ≡ v) ⊎ (y < v) → p y ≡ true
    by_place y (inl k) = ap p k ∙ e
    by_place y (inr l) = list_all-in p (range_with_len 0 v) y h (in_range y v l)

pub list_all-fails_at : (p : ℕ → Bool) (n v : ℕ) → v < n → p v ≡ false → list_all p (range_with_len 0 n) ≡ false
list_all-fails_at p n v lt e = list_all-fails p (range_with_len 0 n) v (list_all p (range_with_len 0 n)) refl (in_range v n lt) e
