-- Lists that are written place by place.
use Rattle.std.proofs.Common.{◌≡◌, ℕ, ◌+◌, ◌<◌, List, length, get_or, inl, inr, sym, subst, arith}
use Rattle.std.proofs.Math.ListN.{set}
use Rattle.std.proofs.lemmas.Bool.{cases_lt}
use Rattle.std.proofs.lemmas.List.{get_or-set_same, get_or-set_other}

-- what holds at each place below n holds at one more, once an element for which it does is written
-- there
pub each_written : {X : Type 0} (P : ℕ → X → Type 0) (xs : List X) (n : ℕ) (x d : X) → n < length xs → ((k : ℕ) → k < n → P k (get_or xs k d)) → P n x
    → (k : ℕ) → k < n + 1 → P k (get_or (set xs n x) k d)
each_written P xs n x d lt each here k k_lt = elim (cases_lt k n) [
  | inl below ↦ subst (P k) (sym (get_or-set_other xs n k x d (λ e. omega arith))) (each k below)
  | inr ge ↦
      let at : k ≡ n = omega arith in
      let family = λ (i : ℕ). P i (get_or (set xs n x) i d) in
      subst family (sym at) (subst (P n) (sym (get_or-set_same xs n x d lt)) here)
]
