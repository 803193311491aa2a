-- What a status says, by how its parts ended.
use Rattle.std.proofs.Common.{◌≡◌, ◌≤◌, ℕ, true, false, List, length, Option, Some, Result, Ok}
use Rattle.std.specs.Io.KnownBytes.{Appends}
use Rattle.swap_io.specs.Tape.{Consumes, IsAtEnd, Tape}
use Rattle.swap_io.specs.Causes.{AppendsProperPrefix}
use Rattle.command_input.specs.Streams.{streams}
use Rattle.party_answer.specs.declared.given.Answer.{Answer}
use Rattle.party_main.specs.declared.command.Command.{Command}
use Rattle.party_main.specs.declared.reason.PartyReason.{PartyReason}
use Rattle.party_main.specs.declared.top.PartyStatus.{PartyStatus}
use Rattle.party_main.specs.declared.top.PartyStatus.TheVariants.{Done, Warned, WrongWords, Refused, ReadFault, WriteFault, NoMemory, TooLong}
use Rattle.party_main.specs.Words.{words_party_command, command_input_limit}
use Rattle.party_main.specs.Output.{party_output, IsPromisedOutput}
use Rattle.party_main.specs.Says.{HasAnswer, HasText, PartyStatusSays, PartyStatusWrites}

-- The whole input was read for a command.
module _ (words : List (List ℕ)) (command : Command) (asked : words_party_command words ≡ Some command) (input : List ℕ) (left left' : Tape)
    (took : Consumes left left' input) (ended : IsAtEnd left') (within : length input ≤ command_input_limit command) where
  abbrev read : (answer : Result Answer PartyReason) → party_output command input ≡ answer → HasAnswer words left left' answer
  read answer e = record { command = command; asked = asked; input = input; taken = took; ended = ended; within = within; gives = e }

  -- this is written of it
  module _ (n m p q : ℕ) (taken taken' : Option (List ℕ)) (w : Answer) (is : party_output command input ≡ Ok w) (promised : IsPromisedOutput command input w) where
    has_text : (P : Answer → Type 0) → P w → HasText P words left left'
    has_text P k = record { what = w; read = read (Ok w) is; promised = promised; written = k }

    pub says_text : (s : PartyStatus) → PartyStatusWrites taken taken' p q w s → PartyStatusSays words (streams left n taken p) (streams left' m taken' q) s
    says_text Done k = has_text (λ x. (x.warns ≡ false) × Appends taken taken' x.text) k
    says_text Warned k = has_text (λ x. (x.warns ≡ true) × Appends taken taken' x.text) k
    says_text WriteFault k = (k.0, has_text (λ x. AppendsProperPrefix taken taken' x.text) k.1)
    says_text WrongWords k = absurd k
    says_text (Refused reason) k = absurd k
    says_text ReadFault k = absurd k
    says_text NoMemory k = absurd k
    says_text TooLong k = absurd k
