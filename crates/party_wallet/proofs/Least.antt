-- The least number that passes, found by going along a range of numbers.
use Rattle.std.proofs.Common.{◌≡◌, ℕ, suc, ◌+◌, ◌-◌, ◌<◌, ◌≤◌, Bool, true, false, cond, List, [], ◌∷◌, Option, Some, None, refl, sym, ap, ◌∙◌, inl, inr, arith}
use Rattle.std.specs.List.{find, range_with_len}
use Rattle.swap_base.specs.Lists.{IsElement}

range-next : (a n : ℕ) → a < n → range_with_len a (n - a) ≡ a ∷ range_with_len (a + 1) (n - (a + 1))
range-next a n lt = let e : n - a ≡ suc (n - (a + 1)) = omega arith in ap (range_with_len a) e

-- what doesn't pass is passed over
pub goes_on : (p : ℕ → Bool) (a n : ℕ) (whole : Option ℕ) → a < n → p a ≡ false → find p (range_with_len a (n - a)) ≡ whole
    → find p (range_with_len (a + 1) (n - (a + 1))) ≡ whole
goes_on p a n whole lt fails so_far =
    sym (ap (find p) (range-next a n lt) ∙ ap (λ b. cond b (Some a) (find p (range_with_len (a + 1) (n - (a + 1))))) fails) ∙ so_far

pub is_found : (p : ℕ → Bool) (a n : ℕ) (whole : Option ℕ) → a < n → p a ≡ true → find p (range_with_len a (n - a)) ≡ whole → Some a ≡ whole
is_found p a n whole lt passes so_far =
    sym (ap (find p) (range-next a n lt) ∙ ap (λ b. cond b (Some a) (find p (range_with_len (a + 1) (n - (a + 1))))) passes) ∙ so_far

-- at the end of the range nothing was found
pub none_left : (p : ℕ → Bool) (a n : ℕ) (whole : Option ℕ) → n ≤ a → find p (range_with_len a (n - a)) ≡ whole → whole ≡ None
none_left p a n whole past so_far = let none : n - a ≡ 0 = omega arith in sym so_far ∙ ap (λ k. find p (range_with_len a k)) none

pub by_test : (b : Bool) (x : ℕ) (o : Option ℕ) → cond b (Some x) o ≡ None → (b ≡ false) × (o ≡ None)
by_test true x o e = absurd (cc e)
by_test false x o e = (refl, e)

-- where none is found, none passes
pub none_in : (p : ℕ → Bool) (xs : List ℕ) (i : ℕ) → find p xs ≡ None → IsElement i xs → p i ≡ false
none_in p [] i e h = absurd h
none_in p (x ∷ xs) i e (inl h) = ap p h ∙ (by_test (p x) x (find p xs) e).0
none_in p (x ∷ xs) i e (inr h) = none_in p xs i (by_test (p x) x (find p xs) e).1 h
