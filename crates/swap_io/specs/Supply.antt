-- A source and a sink in memory, as their callers see them, and what a call makes of them.
use Rattle.std.specs.Prelude.{◌≡◌, ◌==◌, ◌-◌, ◌++◌, ℕ, min, List, length, take, drop, Some, Result, Ok, Err}
use Rattle.swap_io.specs.Tape.{Tape}
use Rattle.swap_io.specs.Causes.{next_count}

pub record Supply : Type 0 where
  pub left : List ℕ
  -- the bytes that its calls gave
  pub gave : List ℕ
  -- the most bytes that a call gives
  pub per_call : ℕ
  -- the numbers, from 0, of the calls that fail
  pub failing : List ℕ
  -- the number of the next call
  pub calls : ℕ
  pub faults : ℕ

-- what the source tells of its bytes: its end is met where nothing is left
abbrev pub supply_tape : Supply → Tape
supply_tape s = record { ahead = Some s.left; given = s.gave; ended = length s.left == 0 }

-- how many bytes the next call gives to a buffer of this length, unless it fails
abbrev pub given : Supply → ℕ → ℕ
given s room = min (min (length s.left) s.per_call) room

abbrev pub after_read : {E : Type 0} → Supply → Result ℕ E → Supply
after_read s (Ok n) = record s { left = drop n s.left; gave = s.gave ++ take n s.left; calls = next_count s.calls }
after_read s (Err e) = record s { calls = next_count s.calls; faults = next_count s.faults }

pub record Store : Type 0 where
  pub taken : List ℕ
  -- the most bytes that it takes in all
  pub room : ℕ
  -- the most bytes that a call takes
  pub per_call : ℕ
  -- the numbers, from 0, of the calls that fail
  pub failing : List ℕ
  -- the number of the next call
  pub calls : ℕ
  pub faults : ℕ

-- no room is left
abbrev pub IsFull : Store → Type 0
IsFull s = length s.taken ≡ s.room

-- how many of these bytes the next call takes, unless it fails
abbrev pub accepted_byte_count : Store → List ℕ → ℕ
accepted_byte_count s bytes = min (min (length bytes) s.per_call) (s.room - length s.taken)

abbrev pub after_write : {E : Type 0} → Store → List ℕ → Result ℕ E → Store
after_write s bytes (Ok n) = record s { taken = s.taken ++ take n bytes; calls = next_count s.calls }
after_write s bytes (Err e) = record s { calls = next_count s.calls; faults = next_count s.faults }

-- A sink in memory that grows.
pub record Grown : Type 0 where
  pub taken : List ℕ
  pub faults : ℕ
