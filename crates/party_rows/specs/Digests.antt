-- The lines that tell a digest behind a word: a party's seed, and what was agreed on.
use Rattle.std.specs.Prelude.{ℕ, List, codes, Result, Ok, if◌then◌else◌}
use Rattle.swap_base.specs.Fault.{◌>>=◌}
use Rattle.command_input.specs.declared.refusal.Refusal.{Refusal}
use Rattle.transcript_book.specs.declared.said.Misspelling.{Misspelling}
use Rattle.transcript_book.specs.Between.{separated_parts}
use Rattle.transcript_book.specs.Reading.{misspelt, lower_hex_digest, parse_first_field, is_word, nothing_more}
use Rattle.party_rows.specs.Lines.{first_line, or_bad_line}

-- the field is that word
abbrev pub this_word : List ℕ → List ℕ → Result (Unit {0}) Misspelling
this_word word w = if is_word w word then Ok tt else misspelt

-- the digest that the fields of a line tell behind a word
unfoldable pub told_digest : List ℕ → List (List ℕ) → Result (List ℕ) Misspelling
told_digest word ws = do
  first ← parse_first_field (this_word word) ws
  digest ← parse_first_field lower_hex_digest first.1
  u ← nothing_more digest.1
  Ok digest.0

-- the digest that the line of that number tells behind a word
unfoldable pub digest_told : List ℕ → ℕ → List ℕ → Result (List ℕ) Refusal
digest_told word number line = or_bad_line number (told_digest word (separated_parts 32 line))

-- the digest that the first of these lines tells behind a word, and the lines after it
unfoldable pub digest_line : List ℕ → ℕ → List (List ℕ) → Result (List ℕ × List (List ℕ)) Refusal
digest_line word number ls = do
  first ← first_line ls
  digest ← digest_told word number first.0
  Ok (digest, first.1)

-- the seed that the line of that number tells
abbrev pub read_seed_line : ℕ → List ℕ → Result (List ℕ) Refusal
read_seed_line number line = digest_told (codes "seed") number line

-- the seed that the first of these lines tells, and the lines after it
abbrev pub seed_line : ℕ → List (List ℕ) → Result (List ℕ × List (List ℕ)) Refusal
seed_line number ls = digest_line (codes "seed") number ls

-- the agreed digest that the first of these lines tells, and the lines after it
abbrev pub agreed_line : ℕ → List (List ℕ) → Result (List ℕ × List (List ℕ)) Refusal
agreed_line number ls = digest_line (codes "agreed") number ls
