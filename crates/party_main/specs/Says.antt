-- What each status says of the words, of bytes read and of bytes written.
use Rattle.std.specs.Prelude.{◌≡◌, ◌≤◌, ◌+◌, ℕ, true, false, List, length, Option, Some, None, Result, Ok, Err}
use Rattle.std.specs.Io.KnownBytes.{Appends, Keeps}
use Rattle.swap_io.specs.Tape.{Consumes, IsAtEnd, Tape}
use Rattle.swap_base.specs.declared.fault.Fault.{Fault}
use Rattle.swap_base.specs.declared.fault.Fault.TheVariants as faults
use Rattle.swap_io.specs.Causes.{Rose, ConsumesAtMost, ConsumesSome, AppendsProperPrefix}
use Rattle.command_input.specs.Streams.{HasReadFault, HasWriteFault, Streams}
use Rattle.party_answer.specs.declared.given.Answer.{Answer}
use Rattle.party_main.specs.declared.command.Command.{Command}
use Rattle.party_main.specs.declared.reason.PartyReason.{PartyReason}
use Rattle.party_main.specs.declared.top.PartyStatus.{PartyStatus}
use Rattle.party_main.specs.declared.top.PartyStatus.TheVariants.{Done, Warned, WrongWords, Refused, ReadFault, WriteFault, NoMemory, TooLong}
use Rattle.party_main.specs.Words.{words_party_command, command_input_limit}
use Rattle.party_main.specs.Output.{party_output, IsPromisedOutput}

-- The words are a command's, the whole input was read, and this is what is written of it.
pub record HasAnswer (words : List (List ℕ)) (left left' : Tape) (answer : Result Answer PartyReason) : Type 0 where
  pub command : Command
  pub asked : words_party_command words ≡ Some command
  pub input : List ℕ
  pub taken : Consumes left left' input
  pub ended : IsAtEnd left'
  pub within : length input ≤ command_input_limit command
  pub gives : party_output command input ≡ answer

-- A text is written of it, which is promised, and P tells what was written of this text.
pub record HasText (P : Answer → Type 0) (words : List (List ℕ)) (left left' : Tape) : Type 0 where
  pub what : Answer
  pub read : HasAnswer words left left' (Ok what)
  pub promised : IsPromisedOutput read.command read.input what
  pub written : P what

-- The words are a command's, and P holds of the most bytes that are read for it.
pub record HasLimit (words : List (List ℕ)) (P : ℕ → Type 0) : Type 0 where
  pub command : Command
  pub asked : words_party_command words ≡ Some command
  pub holds : P (command_input_limit command)

-- the status where nothing is written
abbrev pub of_fault : Fault PartyReason → PartyStatus
of_fault (faults.Refused reason) = Refused reason
of_fault faults.NoMemory = NoMemory

-- what a status says of a text that is written, by what the sink took and how many of its calls
-- failed
abbrev pub PartyStatusWrites : Option (List ℕ) → Option (List ℕ) → ℕ → ℕ → Answer → PartyStatus → Type 0
PartyStatusWrites taken taken' p q w Done = (w.warns ≡ false) × Appends taken taken' w.text
PartyStatusWrites taken taken' p q w Warned = (w.warns ≡ true) × Appends taken taken' w.text
PartyStatusWrites taken taken' p q w WriteFault = Rose p q × AppendsProperPrefix taken taken' w.text
PartyStatusWrites taken taken' p q w _ = ⊥

-- what a status says, by the words, and by the source and the sink before and after
abbrev pub PartyStatusSays : List (List ℕ) → Streams → Streams → PartyStatus → Type 0
PartyStatusSays words before after Done = HasText (λ w. (w.warns ≡ false) × Appends before.taken after.taken w.text) words before.left after.left
PartyStatusSays words before after Warned = HasText (λ w. (w.warns ≡ true) × Appends before.taken after.taken w.text) words before.left after.left
PartyStatusSays words before after WrongWords = (words_party_command words ≡ None) × (after.left ≡ before.left) × Keeps before.taken after.taken
PartyStatusSays words before after (Refused reason) = HasAnswer words before.left after.left (Err reason) × Keeps before.taken after.taken
PartyStatusSays words before after ReadFault =
    HasReadFault before after × HasLimit words (ConsumesAtMost before.left after.left) × Keeps before.taken after.taken
PartyStatusSays words before after WriteFault =
    HasWriteFault before after × HasText (λ w. AppendsProperPrefix before.taken after.taken w.text) words before.left after.left
PartyStatusSays words before after NoMemory = HasLimit words (λ n. ConsumesAtMost before.left after.left (n + 1)) × Keeps before.taken after.taken
PartyStatusSays words before after TooLong = HasLimit words (λ n. ConsumesSome before.left after.left (n + 1)) × Keeps before.taken after.taken
