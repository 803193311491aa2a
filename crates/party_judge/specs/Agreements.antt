-- The lines that tell which digest each party agreed on.
use Rattle.std.specs.Prelude.{ℕ, Bool, false, List, [], ◌∷◌, codes, Result, Ok, Err, if◌then◌else◌}
use Rattle.std.specs.Str.{bytes_eq}
use Rattle.swap_base.specs.Fault.{◌>>=◌}
use Rattle.command_input.specs.declared.refusal.Refusal.{Refusal}
use Rattle.transcript_book.specs.declared.said.Misspelling.{Misspelling}
use Rattle.transcript_book.specs.Between.{separated_parts}
use Rattle.transcript_book.specs.Reading.{first_field, lower_hex_digest, parse_first_field, is_word, nothing_more}
use Rattle.party_rows.specs.Digests.{this_word}
use Rattle.party_rows.specs.Lines.{following_line_number, or_bad_line}
use Rattle.party_rows.specs.Names.{party_named}
use Rattle.party_judge.specs.declared.agreements.Agreement.{Agreement}
use Rattle.party_judge.specs.declared.reason.JudgeReason.{JudgeReason}
use Rattle.party_judge.specs.declared.reason.JudgeReason.TheVariants.{NotAgreed}
use Rattle.party_judge.specs.Faults.{by_refusal}

-- what the fields of a line tell: `agreed NAME DIGEST`
unfoldable pub agreement_fields : List (List ℕ) → Result Agreement Misspelling
agreement_fields ws = do
  word ← parse_first_field (this_word (codes "agreed")) ws
  name ← first_field word.1
  digest ← parse_first_field lower_hex_digest name.1
  u ← nothing_more digest.1
  Ok (record { name = name.0; digest = digest.0 })

-- what the line of that number tells
unfoldable pub agreement_told : ℕ → List ℕ → Result Agreement Refusal
agreement_told number line = or_bad_line number (agreement_fields (separated_parts 32 line))

-- the digest that the line of that number tells, which names a party
unfoldable pub party_agreement : ℕ → List (List ℕ) → List ℕ → Result (List ℕ) Refusal
party_agreement number names line = do
  told ← agreement_told number line
  party ← party_named number names told.name
  Ok told.digest

-- the digest that the line tells is this one
unfoldable pub check_agreement : List (List ℕ) → List ℕ → ℕ → List ℕ → Result (Unit {0}) JudgeReason
check_agreement names digest number line = do
  told ← by_refusal (party_agreement number names line)
  if bytes_eq told digest then Ok tt else Err (NotAgreed digest)

abbrev pub begins_agreement : List (List ℕ) → Bool
begins_agreement [] = false
begins_agreement (w ∷ ws) = is_word w (codes "agreed")

-- the first word of the line is `agreed`
unfoldable pub is_agreement : List ℕ → Bool
is_agreement line = begins_agreement (separated_parts 32 line)

-- The lines of parties that stand first among lines, of which the first has that number, all tell
-- this digest: the number of the line behind them, and the lines behind them.
abbrev pub further_agreements : List (List ℕ) → List ℕ → ℕ → List (List ℕ) → Result (ℕ × List (List ℕ)) JudgeReason
further_agreements names digest number [] = Ok (number, [])
further_agreements names digest number (l ∷ ls) =
    if is_agreement l then (check_agreement names digest number l >>= λ u. further_agreements names digest (following_line_number number) ls) else Ok (number, l ∷ ls)

unfoldable pub agreements : List (List ℕ) → List ℕ → ℕ → List (List ℕ) → Result (ℕ × List (List ℕ)) JudgeReason
agreements names digest number ls = further_agreements names digest number ls
