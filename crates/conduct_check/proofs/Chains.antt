-- Tests in another order.
use Rattle.std.proofs.Common.{◌≡◌, Bool, true, false, ◌&&◌, refl, sym, ap, ◌∙◌}
use Rattle.swap_base.proofs.Lists.{and_swap}

-- where the first two tests are dear
pub secret_chain : (hash leads fresh : Bool) → (leads && fresh && hash) ≡ (hash && leads && fresh)
secret_chain true true true = refl
secret_chain true true false = refl
secret_chain true false fresh = refl
secret_chain false true true = refl
secret_chain false true false = refl
secret_chain false false fresh = refl

pub in_turn : (origin valid : Bool) (o v : Bool) → o ≡ origin → v ≡ valid → (o && v) ≡ (valid && origin)
in_turn origin valid o v e k = ap (λ z. z && v) e ∙ (ap (λ z. origin && z) k ∙ and_swap origin valid)

pub stops : (origin valid : Bool) (o : Bool) → o ≡ origin → o ≡ false → o ≡ (valid && origin)
stops origin valid o e k = k ∙ (none valid ∙ ap (λ z. valid && z) (sym k ∙ e))
  where
    none : (v : Bool) → false ≡ (v && false)
    none true = refl
    none false = refl
