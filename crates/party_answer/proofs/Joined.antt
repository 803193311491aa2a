-- What is put in two calls.
use Rattle.std.proofs.Common.{◌≡◌, ℕ, List, ◌++◌, Result, Ok, Err, ap, ◌∙◌, append_assoc}
use Rattle.std.specs.Prelude.{OnOk}

pub put_both : {T E : Type 0} (r : Result T E) (a b c x y : List ℕ) → b ≡ a ++ x → OnOk r (c ≡ b ++ y) → OnOk r (c ≡ a ++ (x ++ y))
put_both (Ok t) a b c x y p q = q ∙ (ap (λ (l : List ℕ). l ++ y) p ∙ append_assoc a x y)
put_both (Err f) a b c x y p q = tt
