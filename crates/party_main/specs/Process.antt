-- What the process `party` did, in bytes: those that its reads gave, whether the last read that
-- didn't fail met the end, and those that its writes took.
use Rattle.std.specs.Prelude.{◌≡◌, ◌<◌, ◌≤◌, ◌+◌, ℕ, Bool, true, false, List, [], length, take, Some, None, Result, Ok, Err}
use Rattle.party_answer.specs.declared.given.Answer.{Answer}
use Rattle.party_main.specs.declared.command.Command.{Command}
use Rattle.party_main.specs.declared.reason.PartyReason.{PartyReason}
use Rattle.party_main.specs.declared.top.PartyStatus.{PartyStatus}
use Rattle.party_main.specs.declared.top.PartyStatus.TheVariants.{Done, Warned, WrongWords, Refused, ReadFault, WriteFault, NoMemory, TooLong}
use Rattle.party_main.specs.Words.{words_party_command, command_input_limit}
use Rattle.party_main.specs.Output.{party_output, IsPromisedOutput}
use Rattle.party_main.specs.Says.{HasLimit}

-- What passed through a process.
pub record Passed : Type 0 where
  -- what its reads gave
  pub given : List ℕ
  -- whether the last read that didn't fail gave none
  pub ended : Bool
  -- what its writes took
  pub written : List ℕ

-- The words are a command's, what the reads gave up to the end is its input, and this is what is
-- written of it.
pub record HasReadAll (words : List (List ℕ)) (p : Passed) (answer : Result Answer PartyReason) : Type 0 where
  pub command : Command
  pub asked : words_party_command words ≡ Some command
  pub ended : p.ended ≡ true
  pub within : length p.given ≤ command_input_limit command
  pub gives : party_output command p.given ≡ answer

-- A text is written of what the reads gave, which is promised, and P tells what was written of this
-- text.
pub record HasServed (words : List (List ℕ)) (p : Passed) (P : Answer → Type 0) : Type 0 where
  pub what : Answer
  pub read : HasReadAll words p (Ok what)
  pub promised : IsPromisedOutput read.command p.given what
  pub written : P what

-- what each status says of what passed: where it is `Done` or `Warned`, what was written is, byte
-- for byte, the text of what was read
abbrev pub PartyProcessSays : List (List ℕ) → Passed → PartyStatus → Type 0
PartyProcessSays words p Done = HasServed words p (λ w. (w.warns ≡ false) × (p.written ≡ w.text))
PartyProcessSays words p Warned = HasServed words p (λ w. (w.warns ≡ true) × (p.written ≡ w.text))
PartyProcessSays words p WrongWords = (words_party_command words ≡ None) × (p.given ≡ []) × (p.written ≡ [])
PartyProcessSays words p (Refused reason) = HasReadAll words p (Err reason) × (p.written ≡ [])
PartyProcessSays words p ReadFault = HasLimit words (λ n. length p.given ≤ n) × (p.written ≡ [])
PartyProcessSays words p WriteFault = HasServed words p (λ w. (k : ℕ) × (k < length w.text) × (p.written ≡ take k w.text))
PartyProcessSays words p NoMemory = HasLimit words (λ n. length p.given ≤ n + 1) × (p.written ≡ [])
PartyProcessSays words p TooLong = HasLimit words (λ n. length p.given ≡ n + 1) × (p.written ≡ [])
