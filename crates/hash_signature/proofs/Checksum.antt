-- The law of the checksum: two different messages each have a digit that is lower than the other's.
use Rattle.std.proofs.Common.{◌≡◌, ◌⊎◌, ℕ, zero, suc, ◌+◌, ◌/◌, ◌%◌, ◌<◌, ◌≤◌, List, [], ◌∷◌, ◌++◌, length, get_or, refl, sym, ap, ◌∙◌, inl, inr, arith}
use Rattle.std.proofs.lemmas.Bool.{cases_lt, cases_order}
use Rattle.std.proofs.lemmas.List.{get_or-append-add}
use Rattle.hash_signature.specs.Law.{ChecksumLaw}
use Rattle.hash_signature.specs.Signature.{half_bytes, checksum, three_digits, digits, digit}
use Rattle.hash_signature.proofs.MessageDigits.{half_small, length-half_bytes, bytes_to_end}

-- a place at which the first list is lower
abbrev pub LowerAt : List ℕ → List ℕ → Type 0
LowerAt xs ys = (j : ℕ) × (j < length xs) × (get_or xs j 0 < get_or ys j 0)

-- what two lists of digits of one length are to each other
abbrev pub Compared : List ℕ → List ℕ → Type 0
Compared xs ys = LowerAt xs ys ⊎ ((xs ≡ ys) ⊎ (checksum xs < checksum ys))

same_head : (x y : ℕ) (xs ys : List ℕ) → x ≡ y → Compared xs ys → Compared (x ∷ xs) (y ∷ ys)
same_head x y xs ys e (inl r) = inl (suc r.0, omega arith, r.2)
same_head x y xs ys e (inr (inl r)) = inr (inl (ap (λ (z : ℕ). z ∷ xs) e ∙ ap (λ l. y ∷ l) r))
same_head x y xs ys e (inr (inr r)) = inr (inr (omega arith))

higher_head : (x y : ℕ) (xs ys : List ℕ) → y < x → x ≤ 15 → Compared xs ys → Compared (x ∷ xs) (y ∷ ys)
higher_head x y xs ys lt small (inl r) = inl (suc r.0, omega arith, r.2)
higher_head x y xs ys lt small (inr (inl r)) = let e = ap checksum r in inr (inr (omega arith))
higher_head x y xs ys lt small (inr (inr r)) = inr (inr (omega arith))

compared : (xs ys : List ℕ) → length xs ≡ length ys → ((k : ℕ) → get_or xs k 0 ≤ 15) → Compared xs ys
compared [] [] e small = inr (inl refl)
compared [] (y ∷ ys) e small = absurd (omega arith)
compared (x ∷ xs) [] e small = absurd (omega arith)
compared (x ∷ xs) (y ∷ ys) e small =
    let rest : Compared xs ys = compared xs ys (omega arith) (λ k. small (suc k)) in
    elim (cases_order x y) [
      | inl same ↦ same_head x y xs ys same rest
      | inr (inl lower) ↦ inl (0, omega arith, lower)
      | inr (inr higher) ↦ higher_head x y xs ys higher (small 0) rest
    ]

-- equal digits are those of equal bytes
half_bytes-injective : (m n : List ℕ) → half_bytes m ≡ half_bytes n → m ≡ n
half_bytes-injective [] [] e = refl
half_bytes-injective [] (b ∷ n) e = absurd (cc e)
half_bytes-injective (b ∷ m) [] e = absurd (cc e)
half_bytes-injective (a ∷ m) (b ∷ n) e =
    let high : a / 16 ≡ b / 16 = cc in
    let low : a % 16 ≡ b % 16 = cc in
    let rest : half_bytes m ≡ half_bytes n = cc in
    let head : a ≡ b = omega arith in
    ap (λ (z : ℕ). z ∷ m) head ∙ ap (λ l. b ∷ l) (half_bytes-injective m n rest)

-- a smaller number has a smaller digit in base 16
lower_digit : (a b : ℕ) → a < b → (k : ℕ) × (k < 3) × (get_or (three_digits a) k 0 < get_or (three_digits b) k 0)
lower_digit a b lt =
    elim (cases_lt (a / 256) (b / 256)) [
      | inl first ↦ (0, omega arith, first)
      | inr p ↦ elim (cases_lt (a / 16 % 16) (b / 16 % 16)) [
        | inl second ↦ (1, omega arith, second)
        | inr q ↦ elim (cases_lt (a % 16) (b % 16)) [
          | inl third ↦ (2, omega arith, third)
          | inr r ↦ absurd (omega arith)
        ]
      ]
    ]

get_or-front : (xs ys : List ℕ) (j : ℕ) → j < length xs → get_or (xs ++ ys) j 0 ≡ get_or xs j 0
get_or-front [] ys j lt = absurd (omega arith)
get_or-front (x ∷ xs) ys zero lt = refl
get_or-front (x ∷ xs) ys (suc j) lt = get_or-front xs ys j (omega arith)

-- digits past the 64 of the bytes
get_or-back : (xs ys : List ℕ) (n k : ℕ) → length xs ≡ n → get_or (xs ++ ys) (n + k) 0 ≡ get_or ys k 0
get_or-back xs ys n k e = ap (λ (i : ℕ). get_or (xs ++ ys) (i + k) 0) (sym e) ∙ get_or-append-add xs ys k 0

from_compared : (m n : List ℕ) → length (half_bytes m) ≡ 64 → length (half_bytes n) ≡ 64 → (m ≡ n → ⊥) → Compared (half_bytes m) (half_bytes n)
    → (j : ℕ) × (j < 67) × (digit m j < digit n j)
unfolding digits
from_compared m n lm ln differ (inl r) = (
  r.0,
  omega arith,
  rw (
    get_or-front (half_bytes m) (three_digits (checksum (half_bytes m))) r.0 r.1,
    get_or-front (half_bytes n) (three_digits (checksum (half_bytes n))) r.0 (omega arith),
  ) r.2,
)
from_compared m n lm ln differ (inr (inl r)) = absurd (differ (half_bytes-injective m n r))
from_compared m n lm ln differ (inr (inr r)) =
    let low = lower_digit (checksum (half_bytes m)) (checksum (half_bytes n)) r in (
      64 + low.0,
      omega arith,
      rw (
        get_or-back (half_bytes m) (three_digits (checksum (half_bytes m))) 64 low.0 lm,
        get_or-back (half_bytes n) (three_digits (checksum (half_bytes n))) 64 low.0 ln,
      ) low.2,
    )

pub two_messages : ChecksumLaw
two_messages m n p q differ =
    let a : length (half_bytes m) ≡ 64 = omega (arith, length-half_bytes m, p.length_is) in
    let b : length (half_bytes n) ≡ 64 = omega (arith, length-half_bytes n, q.length_is) in
    let bytes : (k : ℕ) → get_or m k 0 < 256 = bytes_to_end m 32 (omega (arith, p.length_is)) (λ k lt. p.bytes k 0 (omega (arith, p.length_is))) in
    from_compared m n a b differ (compared (half_bytes m) (half_bytes n) (a ∙ sym b) (half_small m bytes))
