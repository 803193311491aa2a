-- One step further along a list.
use Rattle.std.proofs.Common.{◌≡◌, ℕ, ◌+◌, List, [], ◌∷◌, ◌++◌, ap, ◌∙◌, arith, max}
use Rattle.std.specs.List.{range_with_len}
use Rattle.swap_base.specs.Lists.{greatest}
use Rattle.conduct_check.proofs.KeyLoops.{range_push}

greatest-push : {A : Type 0} (f : A → ℕ) (xs : List A) (x : A) → greatest f (xs ++ x ∷ []) ≡ max (greatest f xs) (f x)
greatest-push f [] x = omega arith
greatest-push f (y ∷ xs) x =
    let e = greatest-push f xs x in
    let k : max (f y) (max (greatest f xs) (f x)) ≡ max (max (f y) (greatest f xs)) (f x) = omega arith in
    ap (λ n. max (f y) n) e ∙ k

pub greatest_more : (f : ℕ → ℕ) (n : ℕ) → greatest f (range_with_len 0 (n + 1)) ≡ max (greatest f (range_with_len 0 n)) (f n)
greatest_more f n =
    let z : ◌≡◌ {A = ℕ} (0 + n) n = omega arith in
    ap (greatest f) (range_push 0 n ∙ ap (λ k. range_with_len 0 n ++ k ∷ []) z) ∙ greatest-push f (range_with_len 0 n) n
