-- Names by their numbers.
use Rattle.std.specs.Prelude.{ℕ, List, position, Option, Some, None, Result, Ok, Err}
use Rattle.std.specs.Str.{bytes_eq}
use Rattle.command_input.specs.declared.reason.Reason.{Reason}
use Rattle.command_input.specs.declared.reason.Reason.TheVariants.{Unknown}

abbrev pub found_place : ℕ → List ℕ → Option ℕ → Result ℕ Reason
found_place line name (Some k) = Ok k
found_place line name None = Err (Unknown line name)

-- the number of the party of that name is its place among the names, from 0
unfoldable pub party_of_name : ℕ → List (List ℕ) → List ℕ → Result ℕ Reason
party_of_name line names name = found_place line name (position (bytes_eq name) names)
