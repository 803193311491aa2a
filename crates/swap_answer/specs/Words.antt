-- The words that a text tells, each with a line feed behind it.
use Rattle.std.specs.Prelude.{◌≡◌, ◌==◌, ◌-◌, ℕ, Bool, List, [], length, take, Result, Ok, Err, slice_index_or}
use Rattle.std.specs.Prelude.{if◌then◌else◌}
use Rattle.std.specs.Str.{is_utf8}
use Rattle.transcript_book.specs.declared.said.Misspelling.{Misspelling}
use Rattle.transcript_book.specs.declared.said.Misspelling.TheVariants.{Misspelt}
use Rattle.transcript_book.specs.Between.{separated_parts}
use Rattle.transcript_book.specs.Reading.{parse_each_word}

-- a word, which is text
abbrev pub utf8_word : List ℕ → Result (List ℕ) Misspelling
utf8_word word = if is_utf8 word then Ok word else Err Misspelt

-- the last byte is a line feed
abbrev pub is_ended : List ℕ → Bool
is_ended text = slice_index_or text (length text - 1) 0 == 10

-- the words of a text, each ended by a line feed
unfoldable pub told_words : List ℕ → Result (List (List ℕ)) Misspelling
told_words text =
    if length text == 0 then Ok []
    else if is_ended text then parse_each_word utf8_word (separated_parts 10 (take (length text - 1) text))
    else Err Misspelt
