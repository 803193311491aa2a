-- Numbers in their ranges, and values in hexadecimal.
use Rattle.std.specs.Prelude.{ℕ, ◌%◌, List, [], length, codes, nat_le, nat_lt, if◌then◌else◌, Option, Some, None, Result, Ok, Err}
use Rattle.hex.specs.Hex.{decode_sized}
use Rattle.swap_base.specs.Fault.{◌>>=◌}
use Rattle.hash_signature.specs.Signature.{text_values}
use Rattle.hash_signature.specs.declared.sig.Sig.{Sig}
use Rattle.command_input.specs.declared.reason.Reason.{Reason}
use Rattle.command_input.specs.declared.reason.Reason.TheVariants.{OverLimit}
use Rattle.offer_moves.specs.FieldLimits.{ranged_number, check_range, decoded, to_digest}
use Rattle.offer_moves.specs.Lists.{collected_results}

-- a number that is below a count, kept in a byte: where the count is above 256, the header is
-- refused for that
unfoldable pub number_below_count : ℕ → List ℕ → ℕ → ℕ → Result ℕ Reason
number_below_count line field count n = if nat_lt n count then Ok (n % 256) else Err (OverLimit line field n)

abbrev pub optional_most : ℕ → List ℕ → ℕ → Option ℕ → Result (Option ℕ) Reason
optional_most line field high None = Ok None
optional_most line field high (Some n) = do
  m ← ranged_number line field 0 high n
  Ok (Some m)

-- as many digests as a contract may have: where there are more leaders, the header is refused for
-- that
abbrev pub kept : List (List ℕ) → List (List ℕ)
kept digests = if nat_le (length digests) 8 then digests else []

-- one digest for each lock
unfoldable pub limited_locks : ℕ → ℕ → List (List ℕ) → Result (List (List ℕ)) Reason
limited_locks line count texts = do
  u ← check_range line (codes "locks") count count (length texts)
  digests ← collected_results (to_digest line (codes "locks")) texts
  Ok (kept digests)

abbrev pub optional_locks : ℕ → ℕ → Option (List (List ℕ)) → Result (Option (List (List ℕ))) Reason
optional_locks line count None = Ok None
optional_locks line count (Some texts) = do
  locks ← limited_locks line count texts
  Ok (Some locks)

-- a signature, whose 2,144 bytes are its values in order
unfoldable pub parse_sig : ℕ → List ℕ → Result Sig Reason
parse_sig line text = do
  bytes ← decoded line (codes "sigs") (decode_sized text 2144)
  Ok (text_values bytes)
