-- What the process `swap` did, in bytes: those that its reads gave, whether the last read that
-- didn't fail met the end, and those that its writes took.
use Rattle.std.specs.Prelude.{◌≡◌, ◌<◌, ◌≤◌, ◌+◌, ◌⊎◌, ℕ, Bool, true, false, List, [], length, take, Some, Result, Ok, Err}
use Rattle.command_input.specs.Input.{limit}
use Rattle.command_input.specs.Written.{Written}
use Rattle.command_input.specs.declared.reason.Reason.{Reason}
use Rattle.command_input.specs.declared.status.Status.{Status}
use Rattle.command_input.specs.declared.status.Status.TheVariants.{Done, Named, Refused, ReadFault, WriteFault, NoMemory, TooLong, WrongWords}
use Rattle.swap_gen.specs.Drawn.{generated}
use Rattle.swap_rules.specs.Accepted.{IsAccepted}
use Rattle.program_words.specs.declared.task.Request.{Request}
use Rattle.swap_commands.specs.Words.{Command, words_command, words_request}
use Rattle.swap_commands.specs.Output.{Chance, no_chance, output_given_chance, refusal_names}
use Rattle.swap_commands.specs.Generated.{AsRequested, generated_output}
use Rattle.swap_commands.specs.Promised.{AsPromised}
use Rattle.swap_commands.specs.Strategies.{Strategies}

-- What passed through a process.
pub record Passed : Type 0 where
  -- what its reads gave
  pub given : List ℕ
  -- whether the last read that didn't fail gave none
  pub ended : Bool
  -- what its writes took
  pub written : List ℕ

-- The words are a command, what the reads gave up to the end is its input, and this is its output
-- for it, where chance decides so.
pub record HasReadAll (has : List ℕ → Bool) (chance : Chance) (words : List (List ℕ)) (p : Passed) (output : Result Written Reason) : Type 0 where
  pub command : Command
  pub asked : words_command words ≡ Some command
  pub ended : p.ended ≡ true
  pub within : length p.given ≤ limit
  pub gives : output_given_chance has chance command p.given ≡ output

-- The output for what the reads gave is promised, and P tells what was written of it.
pub record HasServed (who : Strategies) (words : List (List ℕ)) (p : Passed) (P : Written → Type 0) : Type 0 where
  pub chance : Chance
  pub output : Written
  pub read : HasReadAll who.holds chance words p (Ok output)
  pub promised : AsPromised who.holds who.gives chance read.command p.given output
  pub written : P output

-- The words ask for the job of a number: nothing was read, and P tells what was written of it.
pub record HasGenerated (words : List (List ℕ)) (p : Passed) (P : Written → Type 0) : Type 0 where
  pub request : Request
  pub asks : words_request words ≡ Some request
  pub unread : p.given ≡ []
  pub accepted : IsAccepted (generated request.seed request.parties).deal
  pub promised : AsRequested request (generated_output request)
  pub written : P (generated_output request)

-- one or the other, by the words
abbrev pub HasAnswered : Strategies → List (List ℕ) → Passed → (Written → Type 0) → Type 0
HasAnswered who words p P = HasServed who words p P ⊎ HasGenerated words p P

-- What the reads gave is refused for the reason, and these are the names in its header.
pub record HasRefused (has : List ℕ → Bool) (words : List (List ℕ)) (p : Passed) (reason : Reason) (names : List (List ℕ)) : Type 0 where
  pub read : HasReadAll has no_chance words p (Err reason)
  pub named : names ≡ refusal_names has read.command p.given

-- what was written is the whole text, and this tells whether something is found in it
abbrev pub IsWhole : Passed → Bool → Written → Type 0
IsWhole p found output = (p.written ≡ output.text) × (output.found ≡ found)

-- a proper prefix of the text was written
abbrev pub IsProperPart : Passed → Written → Type 0
IsProperPart p output = (k : ℕ) × (k < length output.text) × (p.written ≡ take k output.text)

-- a prefix of the text was written, the text itself among them
abbrev pub IsPart : Passed → Written → Type 0
IsPart p output = (k : ℕ) × (k ≤ length output.text) × (p.written ≡ take k output.text)

-- What each status says of what passed.
pub record IsProcess (who : Strategies) (words : List (List ℕ)) (p : Passed) (s : Status) : Type 0 where
  -- what was written is, byte for byte, the text of what was read
  pub done : s ≡ Done → HasAnswered who words p (IsWhole p false)
  pub named : s ≡ Named → HasAnswered who words p (IsWhole p true)
  pub refused : (reason : Reason) (names : List (List ℕ)) → s ≡ Refused reason names → HasRefused who.holds words p reason names
  pub cut : s ≡ WriteFault → HasAnswered who words p (IsProperPart p)
  pub short : s ≡ NoMemory → (p.written ≡ []) ⊎ HasAnswered who words p (IsPart p)
  -- a part was read, or all
  pub part : (s ≡ ReadFault) ⊎ (s ≡ NoMemory) → length p.given ≤ limit
  pub too_long : s ≡ TooLong → length p.given ≡ limit + 1
  pub unread : s ≡ WrongWords → p.given ≡ []
  -- with any other status nothing is written
  pub silent : ¬ (s ≡ Done) → ¬ (s ≡ Named) → ¬ (s ≡ WriteFault) → ¬ (s ≡ NoMemory) → p.written ≡ []
