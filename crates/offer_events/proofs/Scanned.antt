-- What a scan of a plain line has read.
use Rattle.std.proofs.Common.{◌≡◌, ℕ, zero, suc, ◌+◌, ◌-◌, ◌*◌, ◌/◌, ◌%◌, ◌^◌, ◌<◌, ◌≤◌, Bool, true, false, not, List, [], ◌∷◌, ◌++◌, length, get_or, take}
use Rattle.std.proofs.Common.{drop, Some, decimal, refl, sym, ap, ◌∙◌, arith, append_assoc}
use Rattle.std.specs.Prelude.{position}
use Rattle.std.specs.List.{list_all}
use Rattle.std.proofs.lemmas.Fmt.{decimal_digit, decimal_step}
use Rattle.std.proofs.lemmas.List.{take_all}
use Rattle.std.proofs.lemmas.List.Quantifiers.{position-Some}
use Rattle.swap_base.proofs.Lists.{and_both}

-- one more digit of a number
shifted : (v b : ℕ) (after : List ℕ) → 0 < v → v < 10 ^ 18 → 48 ≤ b → b ≤ 57 → decimal v ++ (b ∷ after) ≡ decimal (v * 10 + (b - 48)) ++ after
shifted v b after some small low high =
    let n : ℕ = v * 10 + (b - 48) in
    let step : decimal n ≡ decimal (n / 10) ++ ((48 + n % 10) ∷ []) = decimal_step n (omega arith) (omega arith) in
    let front : n / 10 ≡ v = omega arith in
    let last : 48 + n % 10 ≡ b = omega arith in
    rw (step, front, last) (sym (append_assoc (decimal v) (b ∷ []) after))

split_head : (s : List ℕ) → 1 ≤ length s → s ≡ get_or s 0 0 ∷ take (length s - 1) (drop 1 s)
split_head [] h = absurd (omega arith)
split_head (x ∷ xs) h =
    let same : suc (length xs) - 1 ≡ length xs = omega arith in
    let all : take (length xs) xs ≡ xs = take_all (length xs) xs (omega arith) in
    rw (same, all) refl

pub goes_on : (v : ℕ) (s : List ℕ) → 0 < v → v < 10 ^ 18 → 1 ≤ length s → 48 ≤ get_or s 0 0 → get_or s 0 0 ≤ 57
    → decimal v ++ s ≡ decimal (v * 10 + (get_or s 0 0 - 48)) ++ take (length s - 1) (drop 1 s)
goes_on v s some small long low high =
    ap (λ l. decimal v ++ l) (split_head s long) ∙ shifted v (get_or s 0 0) (take (length s - 1) (drop 1 s)) some small low high

pub zero_first : (s : List ℕ) → 1 ≤ length s → get_or s 0 0 ≡ 48 → s ≡ decimal 0 ++ take (length s - 1) (drop 1 s)
zero_first s long is = split_head s long ∙ ap (λ x. x ∷ take (length s - 1) (drop 1 s)) is
    ∙ ap (λ l. l ++ take (length s - 1) (drop 1 s)) (sym (decimal_digit 0 (omega arith)))

pub first_digit : (b : ℕ) (after : List ℕ) → 48 ≤ b → b ≤ 57 → b ∷ after ≡ decimal (b - 48) ++ after
first_digit b after low high =
    let back : 48 + (b - 48) ≡ b = omega arith in
    rw (decimal_digit (b - 48) (omega arith), back) refl

all_before : (p : ℕ → Bool) (xs : List ℕ) (i : ℕ) → i < length xs → ((k : ℕ) → k < i → not (p (get_or xs k 0)) ≡ false) → list_all p (take i xs) ≡ true
all_before p [] i lt h = absurd (omega arith)
all_before p (x ∷ xs) zero lt h = refl
all_before p (x ∷ xs) (suc i) lt h = and_both (p x) (list_all p (take i xs)) (holds (p x) (h 0 (omega arith)))
    (all_before p xs i (omega arith) (λ k below. h (suc k) (omega arith)))
  where
    holds : (b : Bool) → not b ≡ false → b ≡ true
    holds true e = refl
    holds false e = absurd (cc e)

-- up to the first of the others all are of the kind
pub up_to : (p : ℕ → Bool) (xs : List ℕ) (i : ℕ) → position (λ x. not (p x)) xs ≡ Some i → list_all p (take i xs) ≡ true
up_to p xs i e = let found = position-Some (λ x. not (p x)) xs i 0 e in all_before p xs i found.0 found.2
