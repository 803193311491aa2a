-- When a call of the outside may answer a fault, and what was read or written then.
use Rattle.std.specs.Prelude.{◌≡◌, ◌<◌, ◌≤◌, ◌+◌, ◌-◌, ◌^◌, ℕ, min, List, length, take, Option, Result, OnErr}
use Rattle.std.specs.Io.KnownBytes.{Appends}
use Rattle.swap_io.specs.Tape.{Tape, Consumes}

-- a count after one more, which stays at its last value
abbrev pub next_count : ℕ → ℕ
next_count n = min (n + 1) (2 ^ 64 - 1)

-- the count of faults rose, or stands at its last value
abbrev pub Rose : ℕ → ℕ → Type 0
Rose before now = next_count before ≤ now

-- the count of faults never falls, and an error comes only where it rose
pub record HasCause {T E : Type 0} (before now : ℕ) (result : Result T E) : Type 0 where
  pub later : before ≤ now
  pub failed : OnErr result (Rose before now)

-- exactly n bytes were consumed
abbrev pub ConsumesSome : Tape → Tape → ℕ → Type 0
ConsumesSome old new n = (bytes : List ℕ) × (length bytes ≡ n) × Consumes old new bytes

-- at most n bytes were consumed
abbrev pub ConsumesAtMost : Tape → Tape → ℕ → Type 0
ConsumesAtMost old new n = (bytes : List ℕ) × (length bytes ≤ n) × Consumes old new bytes

-- a proper prefix of the bytes was appended
abbrev pub AppendsProperPrefix : Option (List ℕ) → Option (List ℕ) → List ℕ → Type 0
AppendsProperPrefix old new bytes = (k : ℕ) × (k < length bytes) × Appends old new (take k bytes)
