-- A party's row: what its seed gives a deal.
use Rattle.std.specs.Prelude.{ℕ, ◌++◌, Bool, true, false, List, [], ◌∷◌, codes, map, Option, Some, None, Result, Ok, if◌then◌else◌}
use Rattle.hex.specs.Hex.{encode_lower}
use Rattle.swap_base.specs.Fault.{◌>>=◌}
use Rattle.swap_digraph.specs.declared.deal.Deal.{Deal}
use Rattle.swap_digraph.specs.declared.deal.Mode.{Mode}
use Rattle.swap_digraph.specs.declared.deal.Mode.TheVariants.{Timelocks, Hashkeys}
use Rattle.swap_digraph.specs.Deal.{locks}
use Rattle.hash_signature.specs.Signature.{hashed_value, derive_secret, derive_public_key}
use Rattle.swap_rules.specs.Party.{leads_one}
use Rattle.offer_header.specs.Names.{is_name}
use Rattle.transcript_book.specs.declared.said.Misspelling.{Misspelling}
use Rattle.transcript_book.specs.Between.{separated_parts, spaced}
use Rattle.transcript_book.specs.Reading.{misspelt, lower_hex_digest, parse_first_field, is_word, listed_field, nothing_more}
use Rattle.transcript_book.specs.Words.{list_word}
use Rattle.party_rows.specs.Digests.{this_word}
use Rattle.party_rows.specs.declared.row.Row.{Row}
use Rattle.party_rows.specs.declared.row.NamedRow.{NamedRow}

-- ---- what a seed gives

-- the hashlock that its seed gives a leader
abbrev pub seeded_hashlock : (leads : Bool) → List ℕ → Option (List ℕ)
seeded_hashlock true seed = Some (hashed_value (derive_secret seed))
seeded_hashlock false seed = None

-- the public keys that its seed gives party p, one for each lock; none with timelocks
abbrev pub seeded_keys : Mode → List ℕ → ℕ → Deal → List (List ℕ)
seeded_keys Timelocks seed p d = []
seeded_keys Hashkeys seed p d = map (derive_public_key seed p) (locks d)

-- the row that its seed gives party p
unfoldable pub seeded_row : List ℕ → ℕ → Deal → Row
seeded_row seed p d = record { hashlock = seeded_hashlock (leads_one d p) seed; keys = seeded_keys d.mode seed p d }

-- ---- its line

abbrev pub hashlock_word : Option (List ℕ) → List ℕ
hashlock_word None = codes "-"
hashlock_word (Some hashlock) = encode_lower hashlock

-- the fields of the row of a name
abbrev pub row_words : List ℕ → Row → List (List ℕ)
row_words name row = codes "row" ∷ name ∷ hashlock_word row.hashlock ∷ list_word (map encode_lower row.keys) ∷ []

-- the line of the row of a name, with its line feed
unfoldable pub row_line : List ℕ → Row → List ℕ
row_line name row = spaced (row_words name row) ++ 10 ∷ []

-- ---- what a line says

abbrev pub name_said : List ℕ → Result (List ℕ) Misspelling
name_said w = if is_name w then Ok w else misspelt

abbrev pub hashlock_said : List ℕ → Result (Option (List ℕ)) Misspelling
hashlock_said w = if is_word w (codes "-") then Ok None else (lower_hex_digest w >>= λ hashlock. Ok (Some hashlock))

-- the name and its row that the fields of a line say
unfoldable pub row_said : List (List ℕ) → Result NamedRow Misspelling
row_said ws = do
  word ← parse_first_field (this_word (codes "row")) ws
  name ← parse_first_field name_said word.1
  hashlock ← parse_first_field hashlock_said name.1
  keys ← parse_first_field (listed_field lower_hex_digest) hashlock.1
  u ← nothing_more keys.1
  Ok (record { name = name.0; row = record { hashlock = hashlock.0; keys = keys.0 } })

-- what a line says
unfoldable pub parse_row : List ℕ → Result NamedRow Misspelling
parse_row line = row_said (separated_parts 32 line)
