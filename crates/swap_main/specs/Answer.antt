-- What the program promises of its answer: what each status says, and which status comes.
use Rattle.std.specs.Prelude.{◌≡◌, ◌<◌, ◌≤◌, ◌+◌, ◌⊎◌, ℕ, true, false, List, length, Some, Ok, Err}
use Rattle.std.specs.Io.KnownBytes.{Keeps}
use Rattle.swap_io.specs.Causes.{AppendsProperPrefix, ConsumesAtMost, ConsumesSome}
use Rattle.swap_io.specs.Handed.{AppendsPrefix}
use Rattle.swap_io.specs.Tape.{IsInput}
use Rattle.command_input.specs.declared.reason.Reason.{Reason}
use Rattle.command_input.specs.Written.{IsWrittenWhole, Written}
use Rattle.swap_commands.specs.Words.{Command, words_command, words_request}
use Rattle.program_words.specs.declared.task.Request.{Request}
use Rattle.command_input.specs.declared.status.Status.{Status}
use Rattle.command_input.specs.declared.status.Status.TheVariants.{Done, Named, Refused, ReadFault, WriteFault, NoMemory, TooLong}
use Rattle.swap_commands.specs.Output.{command_output, refusal_names}
use Rattle.swap_commands.specs.Generated.{generated_output, Generates}
use Rattle.swap_commands.specs.Strategies.{Strategies}
use Rattle.command_input.specs.Input.{limit}
use Rattle.command_input.specs.Streams.{HasReadFault, HasWriteFault, Streams}
use Rattle.swap_main.specs.Top.{AsksFairMany, AsksFairRace, AsksFairRun, IsDone, IsCut, IsRefused, IsCutShort, IsOutputStatus, command_status}

-- What the program's answer promises, by its words, and by its input and its output before and
-- after.
pub record IsAnswer (who : Strategies) (words : List (List ℕ)) (before after : Streams) (s : Status) : Type 0 where
  -- What each status says: by an input, or without one by a number.
  pub done : s ≡ Done → IsDone who words before after false ⊎ Generates (IsWrittenWhole before.taken after.taken false) words before.left after.left
  pub named : s ≡ Named → IsDone who words before after true ⊎ Generates (IsWrittenWhole before.taken after.taken true) words before.left after.left
  pub refused : (reason : Reason) (names : List (List ℕ)) → s ≡ Refused reason names → IsRefused who.holds words before.left after.left reason names
  pub read_fault : s ≡ ReadFault → HasReadFault before after
  -- a part of the input was read, or all of it
  pub part : (s ≡ ReadFault) ⊎ (s ≡ NoMemory) → ConsumesAtMost before.left after.left limit
  pub write_fault : s ≡ WriteFault → HasWriteFault before after
  pub cut : s ≡ WriteFault
      → IsCut who words before after ⊎ Generates (λ output. AppendsProperPrefix before.taken after.taken output.text) words before.left after.left
  pub too_long : s ≡ TooLong → ConsumesSome before.left after.left (limit + 1)
  pub short : s ≡ NoMemory
      → Keeps before.taken after.taken ⊎ IsCutShort who words before after
      ⊎ Generates (λ output. AppendsPrefix before.taken after.taken output.text) words before.left after.left
  -- With any other status nothing is written.
  pub silent : ¬ (s ≡ Done) → ¬ (s ≡ Named) → ¬ (s ≡ WriteFault) → ¬ (s ≡ NoMemory) → Keeps before.taken after.taken
  -- What is answered where no call fails: to what the source has left, where it knows that, and to
  -- what it gave up to its end.
  pub long : (command : Command) (input : List ℕ) → words_command words ≡ Some command → IsInput before.left after.left input → limit < length input
      → ¬ HasReadFault before after
      → (s ≡ TooLong) ⊎ (s ≡ NoMemory)
  pub bad : (command : Command) (input : List ℕ) (reason : Reason) → words_command words ≡ Some command → IsInput before.left after.left input → length input ≤ limit
      → command_output who.holds command input ≡ Err reason → ¬ HasReadFault before after
      → (s ≡ Refused reason (refusal_names who.holds command input)) ⊎ (s ≡ NoMemory)
  pub good : (command : Command) (input : List ℕ) (output : Written) → words_command words ≡ Some command → IsInput before.left after.left input → length input ≤ limit
      → command_output who.holds command input ≡ Ok output → ¬ HasReadFault before after → ¬ HasWriteFault before after
      → IsOutputStatus who.holds who.gives command input s ⊎ (s ≡ NoMemory)
  pub fair_run : AsksFairRun who.holds words before.left after.left → ¬ HasReadFault before after → ¬ HasWriteFault before after → (s ≡ Done) ⊎ (s ≡ NoMemory)
  pub fair_race : AsksFairRace who.holds words before.left after.left → ¬ HasReadFault before after → ¬ HasWriteFault before after → (s ≡ Done) ⊎ (s ≡ NoMemory)
  pub fair_many : AsksFairMany who.holds words before.left after.left → ¬ HasReadFault before after → ¬ HasWriteFault before after → (s ≡ Done) ⊎ (s ≡ NoMemory)
  -- The job of a number is made without reading, and no status speaks of an input then.
  pub no_read_fault : (request : Request) → words_request words ≡ Some request → ¬ (s ≡ ReadFault)
  pub not_too_long : (request : Request) → words_request words ≡ Some request → ¬ (s ≡ TooLong)
  pub generated : (request : Request) → words_request words ≡ Some request → ¬ HasWriteFault before after
      → (s ≡ command_status (generated_output request).found) ⊎ (s ≡ NoMemory)
