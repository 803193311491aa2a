-- The greatest value along a list, by a walk over it.
use Rattle.std.proofs.Common.{◌≡◌, ℕ, List, [], ◌∷◌, sym, ◌∙◌, arith, map, max, fold}
use Rattle.swap_base.specs.Lists.{greatest}

fold_max : {A : Type 0} (f : A → ℕ) (most : ℕ) (xs : List A) → fold max most (map f xs) ≡ max most (greatest f xs)
fold_max f most [] = omega arith
fold_max f most (x ∷ xs) =
    let e : max (max most (f x)) (greatest f xs) ≡ max most (max (f x) (greatest f xs)) = omega arith in
    fold_max f (max most (f x)) xs ∙ e

pub greatest_fold : {A : Type 0} (f : A → ℕ) (xs : List A) → greatest f xs ≡ fold (λ m n. max m n) 0 (map f xs)
greatest_fold f xs = let e : max 0 (greatest f xs) ≡ greatest f xs = omega arith in sym (fold_max f 0 xs ∙ e)
