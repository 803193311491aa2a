-- The first answer along the numbers below n, by a walk over them.
use Rattle.std.proofs.Common.{◌≡◌, ℕ, zero, suc, ◌+◌, ◌<◌, true, false, [], ◌∷◌, ◌++◌, Option, Some, None, is_some, sym, ap, ◌∙◌, arith}
use Rattle.std.specs.List.{range_with_len}
use Rattle.swap_base.specs.Lists.{or_else, first_given_answer}
use Rattle.swap_base.proofs.Lists.{first_given_answer-append, none_of}
use Rattle.ledger_core.proofs.FirstAnswer.{found_head}

range_push : (k n : ℕ) → range_with_len k (n + 1) ≡ range_with_len k n ++ (k + n) ∷ []
range_push k zero = ap (λ z. z ∷ []) (omega arith)
range_push k (suc n) =
    let e : suc n + 1 ≡ suc (n + 1) = omega arith in
    let f : (k + 1) + n ≡ k + suc n = omega arith in
    ap (range_with_len k) e ∙ ap (λ l. k ∷ l) (range_push (k + 1) n ∙ ap (λ z. range_with_len (k + 1) n ++ z ∷ []) f)

-- number n has no answer
pub none_more : {B : Type 0} (f : ℕ → Option B) (n : ℕ) (r : Option B) → first_given_answer f (range_with_len 0 n) ≡ None → r ≡ f n → is_some r ≡ false
    → first_given_answer f (range_with_len 0 (n + 1)) ≡ None
none_more f n r e h s =
    let z : ◌≡◌ {A = ℕ} (0 + n) n = omega arith in
    ap (first_given_answer f) (range_push 0 n ∙ ap (λ y. range_with_len 0 n ++ y ∷ []) z)
    ∙ first_given_answer-append f (range_with_len 0 n) (n ∷ [])
    ∙ ap (λ o. or_else o (or_else (f n) None)) e
    ∙ ap (λ o. or_else o None) (sym h ∙ none_of r s)

found_from : {B : Type 0} (f : ℕ → Option B) (k n m : ℕ) (y : B) → first_given_answer f (range_with_len k n) ≡ None → f (k + n) ≡ Some y → n < m
    → first_given_answer f (range_with_len k m) ≡ Some y
found_from f k n zero y e h l = absurd (omega arith)
found_from f k zero (suc m) y e h l = let z : k + zero ≡ k = omega arith in ap (λ o. or_else o (first_given_answer f (range_with_len (k + 1) m))) (ap f (sym z) ∙ h)
found_from f k (suc n) (suc m) y e h l =
    let z : k + suc n ≡ (k + 1) + n = omega arith in
    found_head (f k) (first_given_answer f (range_with_len (k + 1) n)) (first_given_answer f (range_with_len (k + 1) m)) y e (λ q.
    found_from f (k + 1) n m y q (ap f (sym z) ∙ h) (omega arith))

-- number n has the first
pub is_found : {B : Type 0} (f : ℕ → Option B) (n m : ℕ) (r : Option B) → n < m → first_given_answer f (range_with_len 0 n) ≡ None → r ≡ f n → is_some r ≡ true
    → r ≡ first_given_answer f (range_with_len 0 m)
is_found f n m None l e h s = absurd (cc s)
is_found f n m (Some y) l e h s = let z : ◌≡◌ {A = ℕ} (0 + n) n = omega arith in sym (found_from f 0 n m y e (ap f z ∙ sym h) l)
