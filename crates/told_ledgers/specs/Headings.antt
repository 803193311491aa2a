-- The line before those of a ledger.
use Rattle.std.specs.Prelude.{◌&&◌, ◌^◌, ℕ, nat_le, nat_lt, List, Result, Ok, if◌then◌else◌}
use Rattle.swap_base.specs.Fault.{◌>>=◌}
use Rattle.transcript_book.specs.declared.said.Misspelling.{Misspelling}
use Rattle.transcript_book.specs.Between.{separated_parts}
use Rattle.transcript_book.specs.Reading.{parse_first_field, misspelt, nothing_more, bounded_number, decimal_number}
use Rattle.transcript_book.specs.Counts.{ledger_word}
use Rattle.told_ledgers.specs.declared.heading.Heading.{Heading}

-- the number of an arc, at least `least` and below the number of arcs
abbrev pub arc_said : (least arcs : ℕ) → List ℕ → Result ℕ Misspelling
arc_said least arcs w = decimal_number w >>= λ a. if nat_le least a && nat_lt a arcs then Ok a else misspelt

unfoldable pub heading_words : (least arcs : ℕ) → List (List ℕ) → Result Heading Misspelling
heading_words least arcs ws = do
  word ← parse_first_field ledger_word ws
  arc ← parse_first_field (arc_said least arcs) word.1
  count ← parse_first_field (bounded_number (2 ^ 32)) arc.1
  u ← nothing_more count.1
  Ok (record { arc = arc.0; count = count.0 })

-- the arc and the number of lines that a line before those of a ledger tells
unfoldable pub heading_said : (least arcs : ℕ) → List ℕ → Result Heading Misspelling
heading_said least arcs line = heading_words least arcs (separated_parts 32 line)
