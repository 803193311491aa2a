-- What is answered to an input of `next`: its first line tells the seed, and the rest stands behind
-- it.
use Rattle.std.specs.Prelude.{◌≡◌, ◌==◌, ℕ, List, [], ◌∷◌, Result, Ok, Err, if◌then◌else◌}
use Rattle.swap_base.specs.Fault.{◌>>=◌}
use Rattle.command_input.specs.declared.reason.Reason.TheVariants.{CutShort}
use Rattle.command_input.specs.declared.refusal.Refusal.{Refusal}
use Rattle.party_rows.specs.Digests as digests
use Rattle.party_rows.specs.Lines.{is_ended, nameless}
use Rattle.party_answer.specs.declared.given.Answer.{Answer}
use Rattle.party_notes.specs.declared.reason.AnswerReason.{AnswerReason}
use Rattle.party_notes.specs.declared.reason.AnswerReason.TheVariants.{Refused}
use Rattle.party_answer.specs.Promised.{IsTextAnswer}
use Rattle.party_answer.specs.Text.{answer_told}

abbrev pub answer_by_refusal : Result (List ℕ) Refusal → Result (List ℕ) AnswerReason
answer_by_refusal (Ok seed) = Ok seed
answer_by_refusal (Err refusal) = Err (Refused refusal)

-- the seed that the first line tells
abbrev pub read_first_seed_line : List ℕ → Result (List ℕ) AnswerReason
read_first_seed_line line = answer_by_refusal (digests.read_seed_line 1 line)

-- The bytes before the first line feed, and those behind it.
pub record Cut : Type 0 where
  pub line : List ℕ
  pub rest : List ℕ

-- no line feed stands in the text
abbrev pub cut_short : AnswerReason
cut_short = Refused (nameless CutShort)

-- a text cut at its first line feed, if it has one
abbrev pub cut : List ℕ → Result Cut AnswerReason
cut [] = Err cut_short
cut (x ∷ xs) = if x == 10 then Ok (record { line = []; rest = xs }) else cut xs >>= λ c. Ok (record { line = x ∷ c.line; rest = c.rest })

-- what is answered to a text behind the line that tells the seed
unfoldable pub answer_parts : List ℕ → Cut → Result Answer AnswerReason
answer_parts name c = do
  seed ← read_first_seed_line c.line
  answer_told 2 name seed c.rest

-- what is answered to an input that ends with a line feed
unfoldable pub ended_output : List ℕ → List ℕ → Result Answer AnswerReason
ended_output name input = cut input >>= answer_parts name

-- what is answered to an input for the party of that name, or the first reason against it
abbrev pub next_output : List ℕ → List ℕ → Result Answer AnswerReason
next_output name input = if is_ended input then ended_output name input else Err cut_short

-- The answer is that to the bytes behind a line that tells the seed.
pub record IsPartsAnswer (name : List ℕ) (parts : Cut) (answer : Answer) : Type 0 where
  pub seed : List ℕ
  pub told : read_first_seed_line parts.line ≡ Ok seed
  pub is : IsTextAnswer 2 name seed parts.rest answer

-- The answer is that to an input: to what stands behind its first line, with the seed that this
-- line tells.
pub record IsInputAnswer (name input : List ℕ) (answer : Answer) : Type 0 where
  pub parts : Cut
  pub cut : cut input ≡ Ok parts
  pub is : IsPartsAnswer name parts answer
