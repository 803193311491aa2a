-- Loops that put the numbers that pass a test behind a list.
use Rattle.std.proofs.Common.{◌≡◌, ℕ, ◌+◌, Bool, true, false, List, [], ◌∷◌, ◌++◌, filter, refl, ap, ◌∙◌, append_assoc}
use Rattle.std.specs.List.{range_with_len}
use Rattle.swap_digraph.proofs.Ranges.{filter_on, filter_off}

pub after_on : (p : ℕ → Bool) (n : ℕ) (before old new : List ℕ) → p n ≡ true → new ≡ old ++ n ∷ [] → old ≡ before ++ filter p (range_with_len 0 n)
    → new ≡ before ++ filter p (range_with_len 0 (n + 1))
after_on p n before old new t e so_far =
    e ∙ ap (λ (ys : List ℕ). ys ++ n ∷ []) so_far ∙ append_assoc before (filter p (range_with_len 0 n)) (n ∷ [])
    ∙ ap (λ (ys : List ℕ). before ++ ys) (filter_on p n (filter p (range_with_len 0 n)) (filter p (range_with_len 0 n) ++ n ∷ []) t refl refl)

pub after_off : (p : ℕ → Bool) (n : ℕ) (before old : List ℕ) → p n ≡ false → old ≡ before ++ filter p (range_with_len 0 n)
    → old ≡ before ++ filter p (range_with_len 0 (n + 1))
after_off p n before old t so_far = so_far ∙ ap (λ (ys : List ℕ). before ++ ys) (filter_off p n (filter p (range_with_len 0 n)) t refl)
