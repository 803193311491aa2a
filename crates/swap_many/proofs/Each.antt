-- Ticks of the ledgers of several worlds, world by world.
use Rattle.std.proofs.Common.{◌≡◌, ℕ, suc, zero, ◌<◌, ◌||◌, Bool, true, false, List, [], ◌∷◌, length, refl}
use Rattle.std.proofs.Common.{arith, slice_index_or}
use Rattle.std.specs.List.{list_any}

-- where no world has stopped, each goes on
pub none_stopped : {A : Type 0} (p : A → Bool) (xs : List A) (i : ℕ) (d : A) → list_any p xs ≡ false → i < length xs → p (slice_index_or xs i d) ≡ false
none_stopped p [] i d e l = absurd (omega arith)
none_stopped p (x ∷ xs) zero d e l = first (p x) (list_any p xs) e
  where
    first : (a b : Bool) → (a || b) ≡ false → a ≡ false
    first true b e = absurd (cc e)
    first false b e = refl
none_stopped p (x ∷ xs) (suc i) d e l = none_stopped p xs i d (rest (p x) (list_any p xs) e) (omega arith)
  where
    rest : (a b : Bool) → (a || b) ≡ false → b ≡ false
    rest true b e = absurd (cc e)
    rest false b e = e
