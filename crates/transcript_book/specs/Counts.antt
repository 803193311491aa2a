-- The line before the entries of an arc.
use Rattle.std.specs.Prelude.{◌==◌, ℕ, List, codes, Result, Ok, if◌then◌else◌}
use Rattle.swap_base.specs.Fault.{◌>>=◌}
use Rattle.transcript_book.specs.declared.said.Misspelling.{Misspelling}
use Rattle.transcript_book.specs.Between.{separated_parts}
use Rattle.transcript_book.specs.Reading.{parse_first_field, is_word, misspelt, nothing_more, bounded_number, decimal_number}

abbrev pub ledger_word : List ℕ → Result (Unit {0}) Misspelling
ledger_word w = if is_word w (codes "ledger") then Ok tt else misspelt

-- a number that is this one
abbrev pub just : ℕ → List ℕ → Result (Unit {0}) Misspelling
just a w = decimal_number w >>= λ n. if n == a then Ok tt else misspelt

unfoldable pub words_count : ℕ → List (List ℕ) → Result ℕ Misspelling
words_count a ws = do
  word ← parse_first_field ledger_word ws
  arc ← parse_first_field (just a) word.1
  count ← parse_first_field (bounded_number 20065) arc.1
  u ← nothing_more count.1
  Ok count.0

-- the number of entries that the line before those of arc a tells, at most 20,064
unfoldable pub parse_limited_count : ℕ → List ℕ → Result ℕ Misspelling
parse_limited_count a line = words_count a (separated_parts 32 line)
