-- What a source and a sink tell of themselves.
use Rattle.std.specs.Prelude.{ℕ, List, Option}
use Rattle.swap_io.specs.Causes.{Rose}
use Rattle.swap_io.specs.Tape.{Tape}

-- A source and a sink at one moment.
pub record Streams : Type 0 where
  -- what the source gave, and what it has left
  pub left : Tape
  -- how many of its calls failed
  pub read_faults : ℕ
  -- what the sink took
  pub taken : Option (List ℕ)
  -- how many of its calls failed
  pub write_faults : ℕ

-- what the source has left with its faults, and what the sink took with its faults
abbrev pub streams : Tape → ℕ → Option (List ℕ) → ℕ → Streams
streams left read_faults taken write_faults = record { left = left; read_faults = read_faults; taken = taken; write_faults = write_faults }

-- a call of the source failed in between
abbrev pub HasReadFault : Streams → Streams → Type 0
HasReadFault before after = Rose before.read_faults after.read_faults

-- a call of the sink failed in between
abbrev pub HasWriteFault : Streams → Streams → Type 0
HasWriteFault before after = Rose before.write_faults after.write_faults
