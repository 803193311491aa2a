-- One step further along a list.
use Rattle.std.proofs.Common.{◌≡◌, ℕ, ◌+◌, List, [], ◌∷◌, ◌++◌, sym, ap, ◌∙◌, arith, map}
use Rattle.std.specs.List.{range_with_len}
use Rattle.std.proofs.lemmas.List.FromFn.{map-range_with_len_more}

pub map_one_more : {A : Type 0} (f : ℕ → A) (now new : List A) (n : ℕ) (x : A) → now ≡ map f (range_with_len 0 n) → new ≡ now ++ x ∷ [] → x ≡ f n
    → new ≡ map f (range_with_len 0 (n + 1))
map_one_more f now new n x e h k =
    h ∙ (ap (λ l. l ++ x ∷ []) e ∙ (ap (λ z. map f (range_with_len 0 n) ++ z ∷ []) k ∙ sym (map-range_with_len_more f 0 n n (omega arith))))
