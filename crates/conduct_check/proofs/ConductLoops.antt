-- One more place of a row.
use Rattle.std.proofs.Common.{◌≡◌, ◌⊎◌, ℕ, ◌+◌, ◌<◌, Bool, false, List, length, get_or, inl, inr, sym, ap, ◌∙◌, arith}
use Rattle.std.proofs.lemmas.List.{get_or-set_same, get_or-set_other}
use Rattle.std.proofs.Math.ListN.{set, length-set}

split : (i n : ℕ) → i < n + 1 → (i < n) ⊎ (i ≡ n)
split i n l = grind arith

-- one more of eight places is written
pub each_more : (f : ℕ → Bool) (xs : List Bool) (n : ℕ) (x : Bool) → length xs ≡ 8 → n < 8 → ((i : ℕ) → i < n → get_or xs i false ≡ f i) → x ≡ f n
    → (length (set xs n x) ≡ 8) × ((i : ℕ) → i < n + 1 → get_or (set xs n x) i false ≡ f i)
each_more f xs n x long lt h e = (length-set xs n x ∙ long, each)
  where
    each : (i : ℕ) → i < n + 1 → get_or (set xs n x) i false ≡ f i
    each i l = elim (split i n l) [
      | inl k ↦ get_or-set_other xs n i x false (λ (q : i ≡ n). absurd (omega (arith, q, k))) ∙ h i k
      | inr q ↦ ap (λ j. get_or (set xs n x) j false) q ∙ (get_or-set_same xs n x false (omega (arith, long)) ∙ (e ∙ ap f (sym q)))
    ]
