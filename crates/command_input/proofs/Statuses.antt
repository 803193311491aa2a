-- What the status of a text says, by how its writing ended.
use Rattle.std.proofs.Common.{◌≡◌, ℕ, Bool, true, false, List, Option, Result, Ok, Err, refl, sym, subst}
use Rattle.std.specs.Prelude.{OnOk, IsErrOf}
use Rattle.std.specs.Io.KnownBytes.{Appends}
use Rattle.swap_io.specs.Causes.{AppendsProperPrefix, Rose}
use Rattle.swap_io.specs.Handed.{AppendsPrefix}
use Rattle.swap_io.specs.declared.fault.TextFault.{TextFault}
use Rattle.swap_io.specs.declared.fault.TextFault.TheVariants as faults
use Rattle.command_input.specs.Written.{StatusWrites, Written, written_status}
use Rattle.command_input.specs.declared.status.Status.{Status}

module _ (taken taken' : Option (List ℕ)) (p q : ℕ) (output : Written) where
  writes : (written : Result (Unit {0}) TextFault) (found : Bool) → output.found ≡ found → OnOk written (Appends taken taken' output.text)
      → (IsErrOf written faults.WriteFault → AppendsProperPrefix taken taken' output.text)
      → (IsErrOf written faults.NoMemory → AppendsPrefix taken taken' output.text) → (IsErrOf written faults.WriteFault → Rose p q)
      → StatusWrites taken taken' p q output (written_status written found)
  writes (Ok u) true is all part short failed = (all, is)
  writes (Ok u) false is all part short failed = (all, is)
  writes (Err faults.WriteFault) found is all part short failed = (failed refl, part refl)
  writes (Err faults.NoMemory) found is all part short failed = short refl

  pub status_writes : (written : Result (Unit {0}) TextFault) (found : Bool) (s : Status) → s ≡ written_status written found → output.found ≡ found
      → OnOk written (Appends taken taken' output.text) → (IsErrOf written faults.WriteFault → AppendsProperPrefix taken taken' output.text)
      → (IsErrOf written faults.NoMemory → AppendsPrefix taken taken' output.text) → (IsErrOf written faults.WriteFault → Rose p q)
      → StatusWrites taken taken' p q output s
  status_writes written found s same is all part short failed =
      subst (λ (k : Status). StatusWrites taken taken' p q output k) (sym same) (writes written found is all part short failed)
