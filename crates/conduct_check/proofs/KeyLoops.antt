-- One step further along a list.
use Rattle.std.proofs.Common.{◌≡◌, ℕ, zero, suc, ◌+◌, List, [], ◌∷◌, ◌++◌, sym, ap, ◌∙◌, arith, append_assoc, append-nil}
use Rattle.std.specs.List.{flat_map, range_with_len}
use Rattle.std.proofs.lemmas.List.Concat.{flat_map-append}

pub range_push : (a n : ℕ) → range_with_len a (n + 1) ≡ range_with_len a n ++ (a + n) ∷ []
range_push a zero = let z : ◌≡◌ {A = ℕ} (a + 0) a = omega arith in ap (λ k. k ∷ []) (sym z)
range_push a (suc n) =
    let z : ◌≡◌ {A = ℕ} (a + 1 + n) (a + suc n) = omega arith in
    let s : ◌≡◌ {A = ℕ} (suc n + 1) (suc (n + 1)) = omega arith in
    ap (range_with_len a) s ∙ ap (λ l. a ∷ l) (range_push (a + 1) n ∙ ap (λ k. range_with_len (a + 1) n ++ k ∷ []) z)

-- what is added for one more number
pub flat_more : {A : Type 0} (f : ℕ → List A) (old now new : List A) (n : ℕ) → now ≡ old ++ flat_map f (range_with_len 0 n) → new ≡ now ++ f n
    → new ≡ old ++ flat_map f (range_with_len 0 (n + 1))
flat_more f old now new n e h =
    let z : ◌≡◌ {A = ℕ} (0 + n) n = omega arith in
    let r : range_with_len 0 (n + 1) ≡ range_with_len 0 n ++ n ∷ [] = range_push 0 n ∙ ap (λ k. range_with_len 0 n ++ k ∷ []) z in
    let s : flat_map f (range_with_len 0 (n + 1)) ≡ flat_map f (range_with_len 0 n) ++ f n =
    ap (flat_map f) r ∙ (flat_map-append f (range_with_len 0 n) (n ∷ []) ∙ ap (λ x. flat_map f (range_with_len 0 n) ++ x) (append-nil (f n))) in
    h ∙ (ap (λ x. x ++ f n) e ∙ (append_assoc old (flat_map f (range_with_len 0 n)) (f n) ∙ ap (λ x. old ++ x) (sym s)))
