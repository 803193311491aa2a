-- A text and how far it was read.
use Rattle.std.specs.Prelude.{◌≤◌, ℕ, List, [], length, drop, if◌then◌else◌}
use Rattle.transcript_book.specs.Between.{separated_parts}
use Rattle.transcript_book.specs.declared.text_parts.Parts.TheInside.{Inside}

-- the parts that are to come
abbrev pub parts_left : Inside → List (List ℕ)
parts_left p = if p.is_finished then [] else separated_parts p.by (drop p.at p.text.now)

abbrev pub IsCursorInText : Inside → Type 0
IsCursorInText p = p.at ≤ length p.text.now
