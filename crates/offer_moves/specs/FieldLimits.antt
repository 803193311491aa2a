-- Ranges of numbers and lengths, and digests in hexadecimal.
use Rattle.std.specs.Prelude.{◌&&◌, ℕ, List, nat_le, if◌then◌else◌, Result, Ok, Err}
use Rattle.swap_base.specs.Fault.{◌>>=◌}
use Rattle.hex.specs.Hex.{decode_sized}
use Rattle.hex.specs.declared.error.FromHexError.{FromHexError}
use Rattle.command_input.specs.declared.reason.Reason.{Reason}
use Rattle.command_input.specs.declared.reason.Reason.TheVariants.{OverLimit, WrongHex}

-- the number is from low to high
unfoldable pub check_range : ℕ → List ℕ → ℕ → ℕ → ℕ → Result (Unit {0}) Reason
check_range line field low high n = if nat_le low n && nat_le n high then Ok tt else Err (OverLimit line field n)

-- a number from low to high
unfoldable pub ranged_number : ℕ → List ℕ → ℕ → ℕ → ℕ → Result ℕ Reason
ranged_number line field low high n = do
  u ← check_range line field low high n
  Ok n

abbrev pub decoded : ℕ → List ℕ → Result (List ℕ) FromHexError → Result (List ℕ) Reason
decoded line field (Ok bytes) = Ok bytes
decoded line field (Err e) = Err (WrongHex line field)

-- the digest that a text of 64 hexadecimal digits is
unfoldable pub to_digest : ℕ → List ℕ → List ℕ → Result (List ℕ) Reason
to_digest line field text = decoded line field (decode_sized text 32)
