-- What a command's status says, where command_output and refusal_names tell what the command writes
-- for an input.
use Rattle.std.specs.Prelude.{◌≡◌, ◌≤◌, ◌+◌, ◌⊎◌, ℕ, Bool, true, false, List, length, Option, Result, Ok, Err}
use Rattle.std.specs.Io.KnownBytes.{Keeps}
use Rattle.swap_io.specs.Tape.{Consumes, IsAtEnd, Tape}
use Rattle.swap_io.specs.Causes.{ConsumesAtMost, ConsumesSome, AppendsProperPrefix}
use Rattle.swap_io.specs.Handed.{AppendsPrefix}
use Rattle.command_input.specs.declared.reason.Reason.{Reason}
use Rattle.command_input.specs.declared.refusal.Refusal.{Refusal}
use Rattle.command_input.specs.Written.{IsWrittenWhole, Written}
use Rattle.command_input.specs.Input.{limit}
use Rattle.swap_world.specs.Gone.{MayGive}
use Rattle.swap_commands.specs.Output.{Chance, output_given_chance, command_output, no_chance, refusal_names}
use Rattle.swap_commands.specs.Promised.{AsPromised}
use Rattle.swap_commands.specs.Words.{Command}
use Rattle.swap_commands.specs.Strategies.{Strategies}
use Rattle.command_input.specs.declared.status.Status.{Status}
use Rattle.command_input.specs.declared.status.Status.TheVariants.{Done, Named, WrongWords, Refused, ReadFault, WriteFault, NoMemory, TooLong}
use Rattle.command_input.specs.Streams.{HasReadFault, HasWriteFault, Streams}

-- The whole input was read, and this is the command's output for it, where chance decides so.
pub record HasRead (has : List ℕ → Bool) (chance : Chance) (command : Command) (left left' : Tape) (output : Result Written Reason) : Type 0 where
  pub input : List ℕ
  pub taken : Consumes left left' input
  pub ended : IsAtEnd left'
  pub within : length input ≤ limit
  pub gives : output_given_chance has chance command input ≡ output

-- The input was read. It has an output by what chance decided, and the output is promised. P tells
-- what was written of its text.
pub record HasOutput (has : List ℕ → Bool) (gives : MayGive) (P : Written → Type 0) (command : Command) (left left' : Tape) : Type 0 where
  pub chance : Chance
  pub output : Written
  pub read : HasRead has chance command left left' (Ok output)
  pub promised : AsPromised has gives chance command read.input output
  pub written : P output

-- The input was read and is refused for the reason, and these are the names in its header.
pub record HasReason (has : List ℕ → Bool) (command : Command) (left left' : Tape) (reason : Reason) (names : List (List ℕ)) : Type 0 where
  pub read : HasRead has no_chance command left left' (Err reason)
  pub named : names ≡ refusal_names has command read.input

-- a reason against an input, with the names in its header
abbrev pub IsCommandRefusal : (List ℕ → Bool) → Command → List ℕ → Refusal → Type 0
IsCommandRefusal has command input refusal = (command_output has command input ≡ Err refusal.reason) × (refusal.names ≡ refusal_names has command input)

-- what a status says, by the source and the sink before and after
abbrev pub StatusSays : Strategies → Command → Streams → Streams → Status → Type 0
StatusSays who command before after Done = HasOutput who.holds who.gives (IsWrittenWhole before.taken after.taken false) command before.left after.left
StatusSays who command before after Named = HasOutput who.holds who.gives (IsWrittenWhole before.taken after.taken true) command before.left after.left
StatusSays who command before after WrongWords = ⊥
StatusSays who command before after (Refused reason names) =
    HasReason who.holds command before.left after.left reason names × Keeps before.taken after.taken
StatusSays who command before after ReadFault =
    HasReadFault before after × Keeps before.taken after.taken × ConsumesAtMost before.left after.left limit
StatusSays who command before after WriteFault =
    HasWriteFault before after
    × HasOutput who.holds who.gives (λ output. AppendsProperPrefix before.taken after.taken output.text) command before.left after.left
StatusSays who command before after NoMemory =
    (Keeps before.taken after.taken × ConsumesAtMost before.left after.left limit)
    ⊎ HasOutput who.holds who.gives (λ output. AppendsPrefix before.taken after.taken output.text) command before.left after.left
StatusSays who command before after TooLong = ConsumesSome before.left after.left (limit + 1) × Keeps before.taken after.taken

-- What a command says with its status. No read failed, unless the status tells of it.
pub record CommandSays (who : Strategies) (command : Command) (before after : Streams) (s : Status) : Type 0 where
  pub says : StatusSays who command before after s
  pub calm : ¬ (s ≡ ReadFault) → after.read_faults ≡ before.read_faults
