-- Bytes in memory that a source gives, as its callers see them.
use Rattle.std.specs.Prelude.{◌==◌, ℕ, List, length, Some}
use Rattle.swap_io.specs.Tape.{Tape}

pub record Sliced : Type 0 where
  -- the bytes that are left
  pub rest : List ℕ
  -- the bytes that its calls gave
  pub gave : List ℕ

-- what the source tells of its bytes: its end is met where nothing is left
abbrev pub sliced_tape : Sliced → Tape
sliced_tape s = record { ahead = Some s.rest; given = s.gave; ended = length s.rest == 0 }

-- no call fails
abbrev pub no_faults : ℕ
no_faults = 0
