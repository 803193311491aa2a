-- What the library says of the program `swap`: its status, and what it wrote or why it refused.
use Rattle.std.specs.Prelude.{◌≡◌, ◌⊎◌, ℕ, List, Result, Ok, Err}
use Rattle.command_input.specs.declared.status.Status.{Status}
use Rattle.command_input.specs.declared.status.Status.TheVariants as statuses
use Rattle.command_input.specs.StandardError.{refusal_text}
use Rattle.transcript_book.specs.declared.said.Misspelling.{Misspelling}
use Rattle.swap_commands.specs.Words.{AsksRace}
use Rattle.swap_answer.specs.Answered.{IsAnswered, known_strategies}
use Rattle.swap_answer.specs.declared.answer.Answered.{Answered}
use Rattle.swap_party.specs.Said.{IsNothing, IsSaid}
use Rattle.swap_party.specs.declared.said.Said.{Said}

-- what is said by how the program ended, and by what it wrote
abbrev pub IsStatusSaid : Status → List ℕ → List ℕ → List ℕ → Said → Type 0
IsStatusSaid statuses.Done text old new said = IsSaid 0 text old new said
IsStatusSaid statuses.Named text old new said = IsSaid 2 text old new said
IsStatusSaid statuses.WrongWords text old new said = IsNothing 8 old new said
IsStatusSaid (statuses.Refused reason names) text old new said = IsSaid 3 (refusal_text names reason) old new said
IsStatusSaid statuses.ReadFault text old new said = IsNothing 6 old new said
IsStatusSaid statuses.WriteFault text old new said = IsNothing 6 old new said
IsStatusSaid statuses.NoMemory text old new said = IsNothing 6 old new said
IsStatusSaid statuses.TooLong text old new said = IsNothing 7 old new said

abbrev pub IsEnded : Answered → List ℕ → List ℕ → Said → Type 0
IsEnded a old new said = IsStatusSaid a.status a.text old new said

-- The program's answer to words and an input, which is said.
pub record IsSaidOf (words : List (List ℕ)) (input old new : List ℕ) (said : Said) : Type 0 where
  pub answered : Answered
  pub answer : ¬ AsksRace words → IsAnswered known_strategies words input answered
  pub is_said : IsEnded answered old new said

-- what is said of the words that a text tells: status 8 where it tells none, and where they ask for
-- a race
abbrev pub IsProgramSaid : Result (List (List ℕ)) Misspelling → List ℕ → List ℕ → List ℕ → Said → Type 0
IsProgramSaid (Ok words) input old new said = IsSaidOf words input old new said × (AsksRace words → IsNothing 8 old new said ⊎ IsNothing 6 old new said)
IsProgramSaid (Err e) input old new said = IsNothing 8 old new said
