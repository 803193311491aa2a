-- What is written, and what a status says of it.
use Rattle.std.specs.Prelude.{◌≡◌, ℕ, Bool, true, false, List, Option, Result, Ok, Err}
use Rattle.std.specs.Io.KnownBytes.{Appends}
use Rattle.swap_io.specs.Causes.{Rose, AppendsProperPrefix}
use Rattle.swap_io.specs.Handed.{AppendsPrefix}
use Rattle.swap_io.specs.declared.fault.TextFault.{TextFault}
use Rattle.swap_io.specs.declared.fault.TextFault.TheVariants as faults
use Rattle.command_input.specs.declared.status.Status.{Status}
use Rattle.command_input.specs.declared.status.Status.TheVariants.{Done, Named, WrongWords, Refused, ReadFault, WriteFault, NoMemory, TooLong}

-- A text that is written.
pub record Written : Type 0 where
  pub text : List ℕ
  -- whether it tells of a finding
  pub found : Bool

-- the text was written whole, and this says whether something was found
abbrev pub IsWrittenWhole : Option (List ℕ) → Option (List ℕ) → Bool → Written → Type 0
IsWrittenWhole taken taken' found output = Appends taken taken' output.text × (output.found ≡ found)

-- the status of a text by how its writing ended, and by whether it tells of a finding
abbrev pub written_status : Result (Unit {0}) TextFault → Bool → Status
written_status (Ok u) true = Named
written_status (Ok u) false = Done
written_status (Err faults.WriteFault) found = WriteFault
written_status (Err faults.NoMemory) found = NoMemory

-- what a status says of an output that is written, by what the sink took and how many of its calls
-- failed
abbrev pub StatusWrites : Option (List ℕ) → Option (List ℕ) → ℕ → ℕ → Written → Status → Type 0
StatusWrites taken taken' p q output Done = IsWrittenWhole taken taken' false output
StatusWrites taken taken' p q output Named = IsWrittenWhole taken taken' true output
StatusWrites taken taken' p q output WriteFault = Rose p q × AppendsProperPrefix taken taken' output.text
StatusWrites taken taken' p q output NoMemory = AppendsPrefix taken taken' output.text
StatusWrites taken taken' p q output WrongWords = ⊥
StatusWrites taken taken' p q output (Refused reason names) = ⊥
StatusWrites taken taken' p q output ReadFault = ⊥
StatusWrites taken taken' p q output TooLong = ⊥
