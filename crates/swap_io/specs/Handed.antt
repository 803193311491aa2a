-- A text on its way to a sink: a part was taken, and a part waits.
use Rattle.std.specs.Prelude.{◌≡◌, ◌<◌, ◌≤◌, ℕ, List, ◌++◌, length, take, Option, Result, OnOk, IfErr, IsErrOf}
use Rattle.std.specs.Io.KnownBytes.{Appends}
use Rattle.swap_io.specs.Causes.{Rose}
use Rattle.swap_io.specs.declared.fault.TextFault.{TextFault}
use Rattle.swap_io.specs.declared.fault.TextFault.TheVariants.{WriteFault, NoMemory}

-- what waited, and then the text, is what was taken and what waits now
abbrev pub Handed : Option (List ℕ) → List ℕ → Option (List ℕ) → List ℕ → List ℕ → Type 0
Handed taken waiting taken' waiting' text = (bytes : List ℕ) × Appends taken taken' bytes × (waiting ++ text ≡ bytes ++ waiting')

-- a part of what waited and of the text was not taken; after a fault of the sink that part isn't
-- empty
abbrev pub Lost : TextFault → Option (List ℕ) → List ℕ → Option (List ℕ) → List ℕ → Type 0
Lost WriteFault taken waiting taken' text = (lost : List ℕ) × (0 < length lost) × Handed taken waiting taken' lost text
Lost NoMemory taken waiting taken' text = (lost : List ℕ) × Handed taken waiting taken' lost text

-- What a call that hands a text to a sink says: by what the sink had taken and how many of its
-- calls had failed, before and after, and what waited.
pub record Hands {T : Type 0} (taken taken' : Option (List ℕ)) (faults faults' : ℕ) (waiting waiting' text : List ℕ)
    (result : Result T TextFault) : Type 0 where
  pub all : OnOk result (Handed taken waiting taken' waiting' text)
  pub lost : IfErr result (λ e. Lost e taken waiting taken' text)
  pub later : faults ≤ faults'
  pub failed : IsErrOf result WriteFault → Rose faults faults'

-- a prefix of the bytes was appended
abbrev pub AppendsPrefix : Option (List ℕ) → Option (List ℕ) → List ℕ → Type 0
AppendsPrefix old new bytes = (k : ℕ) × (k ≤ length bytes) × Appends old new (take k bytes)
