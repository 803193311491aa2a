-- The party of a name.
use Rattle.std.specs.Prelude.{ℕ, List, position, Option, Some, None, Result, Ok, Err}
use Rattle.std.specs.Str.{bytes_eq}
use Rattle.command_input.specs.declared.reason.Reason.TheVariants.{Unknown}
use Rattle.command_input.specs.declared.refusal.Refusal.{Refusal}
use Rattle.party_rows.specs.Lines.{nameless}

abbrev pub found_party : ℕ → List ℕ → Option ℕ → Result ℕ Refusal
found_party line name (Some p) = Ok p
found_party line name None = Err (nameless (Unknown line name))

-- the party of that name, by its place among these; the line of that number names it, or the
-- parties
unfoldable pub party_named : ℕ → List (List ℕ) → List ℕ → Result ℕ Refusal
party_named line names name = found_party line name (position (bytes_eq name) names)
