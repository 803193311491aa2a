-- A reader or a writer with a count of faults, as its callers see it.
use Rattle.std.specs.Prelude.{◌≡◌, ◌==◌, ◌++◌, ℕ, Bool, List, take, Result, MatchResult}

pub record Counted (T : Type 0) : Type 0 where
  pub inner : T
  -- how many calls have failed
  pub faults : ℕ

-- A reader with a count of faults, and what its reads gave, as its callers see it.
pub record ReadSoFar (T : Type 0) : Type 0 where
  pub inner : T
  -- how many calls have failed
  pub faults : ℕ
  -- the bytes that its reads gave
  pub given : List ℕ
  -- whether the last read that didn't fail gave none
  pub ended : Bool

-- a read put the bytes that it gave behind those before, and nothing where it failed
abbrev pub IsTraced : {T E : Type 0} → ReadSoFar T → ReadSoFar T → Result ℕ E → List ℕ → Type 0
IsTraced old new r buf = MatchResult r
    (λ n. (new.given ≡ old.given ++ take n buf) × (new.ended ≡ (n == 0)))
    (λ _. (new.given ≡ old.given) × (new.ended ≡ old.ended))

-- A sink with what its writes took, as its callers see it.
pub record WrittenSoFar (T : Type 0) : Type 0 where
  pub inner : T
  -- the bytes that its writes took
  pub written : List ℕ
