-- What a source tells of its bytes: those that its reads gave, always, and those that are left,
-- where it knows them; and what reads do to that.
use Rattle.std.specs.Prelude.{◌≡◌, ◌<◌, ◌++◌, ◌⊎◌, ℕ, Bool, true, List, [], length, take, Option, Some, Result, MatchResult}
use Rattle.std.specs.Io.KnownBytes as told

-- The bytes of a source at one moment.
pub record Tape : Type 0 where
  -- the bytes that are left, where the source knows them
  pub ahead : Option (List ℕ)
  -- the bytes that its reads gave
  pub given : List ℕ
  -- whether its end was met
  pub ended : Bool

-- The bytes were given: they stand behind what was given before, and stood before what is left,
-- where that is known.
pub record Consumes (old new : Tape) (bytes : List ℕ) : Type 0 where
  pub known : told.Consumes old.ahead new.ahead bytes
  pub gave : new.given ≡ old.given ++ bytes

-- The end was met, and no byte is left.
pub record IsAtEnd (now : Tape) : Type 0 where
  pub known : told.IsAtEnd now.ahead
  pub met : now.ended ≡ true

-- The bytes are the input: all that is left, where the source knows that, or all that its reads
-- gave up to its end.
abbrev pub IsInput : Tape → Tape → List ℕ → Type 0
IsInput old new input = (old.ahead ≡ Some input) ⊎ (Consumes old new input × IsAtEnd new)

-- `read(buf)` gave the n bytes at `Ok(n)`, none only at the end or with no room, and none at `Err`
abbrev pub ReadConsumes : {E : Type 0} → Tape → Tape → Result ℕ E → List ℕ → Type 0
ReadConsumes old new r buf =
    MatchResult r (λ n. Consumes old new (take n buf) × (n ≡ 0 → 0 < length buf → IsAtEnd new)) (λ _. Consumes old new [])
