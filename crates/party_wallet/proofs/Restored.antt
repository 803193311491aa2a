-- A wallet into which recorded hashkeys are put, lock by lock.
use Rattle.std.proofs.Common.{◌≡◌, ℕ, zero, suc, ◌<◌, ◌≤◌, List, [], ◌∷◌, length, get_or, replicate, slice_set, Option, Some, None, refl, ap, arith}
use Rattle.hashkey_path.specs.declared.hashkey.Hashkey.{Hashkey}

-- the first n of the recorded ones, and none for the others
abbrev pub so_far : List (Option Hashkey) → ℕ → List (Option Hashkey)
so_far [] n = []
so_far (x ∷ xs) zero = None ∷ so_far xs zero
so_far (x ∷ xs) (suc n) = x ∷ so_far xs n

pub none_yet : (xs : List (Option Hashkey)) → replicate (length xs) None ≡ so_far xs 0
none_yet [] = refl
none_yet (x ∷ xs) = ap (λ (l : List (Option Hashkey)). None ∷ l) (none_yet xs)

pub all_there : (xs : List (Option Hashkey)) (n : ℕ) → length xs ≤ n → so_far xs n ≡ xs
all_there [] n le = refl
all_there (x ∷ xs) zero le = absurd (omega (arith, le))
all_there (x ∷ xs) (suc n) le = ap (λ (l : List (Option Hashkey)). x ∷ l) (all_there xs n (omega (arith, le)))

pub one_more : (xs : List (Option Hashkey)) (n : ℕ) (k : Hashkey) → n < length xs → Some k ≡ get_or xs n None
    → slice_set (so_far xs n) n (Some k) ≡ so_far xs (suc n)
one_more [] n k lt is = absurd (omega (arith, lt))
one_more (x ∷ xs) zero k lt is = ap (λ (y : Option Hashkey). y ∷ so_far xs 0) is
one_more (x ∷ xs) (suc n) k lt is = ap (λ (l : List (Option Hashkey)). x ∷ l) (one_more xs n k (omega (arith, lt)) is)

pub long_as : (xs : List (Option Hashkey)) (n : ℕ) → length (so_far xs n) ≡ length xs
long_as [] n = refl
long_as (x ∷ xs) zero = ap suc (long_as xs zero)
long_as (x ∷ xs) (suc n) = ap suc (long_as xs n)

-- within the list no default is taken
pub any_default : (xs : List (Option Hashkey)) (i : ℕ) (x y : Option Hashkey) → i < length xs → get_or xs i x ≡ get_or xs i y
any_default [] i x y lt = absurd (omega (arith, lt))
any_default (z ∷ xs) zero x y lt = refl
any_default (z ∷ xs) (suc i) x y lt = any_default xs i x y (omega (arith, lt))
