-- Faults of reading as those of an input.
use Rattle.std.specs.Prelude.{◌≡◌, ℕ, List}
use Rattle.swap_io.specs.declared.fault.LineFault.{LineFault}
use Rattle.swap_io.specs.declared.fault.LineFault.TheVariants as line
use Rattle.swap_io.specs.declared.fault.DrainFault.{DrainFault}
use Rattle.swap_io.specs.declared.fault.DrainFault.TheVariants as drained
use Rattle.swap_base.specs.declared.fault.Fault.{Fault}
use Rattle.swap_base.specs.declared.fault.Fault.TheVariants as offer
use Rattle.command_input.specs.declared.reason.Reason.{Reason}
use Rattle.command_input.specs.declared.refusal.Refusal.{Refusal}
use Rattle.command_input.specs.declared.fault.InputFault.{InputFault}
use Rattle.command_input.specs.declared.fault.InputFault.TheVariants.{Refused, ReadFault, TooLong, NoMemory}
use Rattle.command_input.specs.declared.status.Status.{Status}
use Rattle.command_input.specs.declared.status.Status.TheVariants as status

-- the fault of an input, by that of a line
abbrev pub of_line : {R : Type 0} → LineFault → InputFault R
of_line line.ReadFault = ReadFault
of_line line.TooLong = TooLong
of_line line.NoMemory = NoMemory

-- the fault of an input, by that of a drain
abbrev pub of_drain : {R : Type 0} → DrainFault → InputFault R
of_drain drained.ReadFault = ReadFault
of_drain drained.TooLong = TooLong

-- the fault of an input, by that of a reader of lines
abbrev pub of_offer : {R : Type 0} → Fault R → InputFault R
of_offer (offer.Refused r) = Refused r
of_offer offer.NoMemory = NoMemory

abbrev pub IsInputNoMemory : {R : Type 0} → InputFault R → Type 0
IsInputNoMemory e = e ≡ NoMemory

-- what stopped a reading, where what is said against the input is told by another value
abbrev pub retold : {R E : Type 0} → (R → E) → InputFault R → InputFault E
retold said (Refused r) = Refused (said r)
retold said ReadFault = ReadFault
retold said TooLong = TooLong
retold said NoMemory = NoMemory

-- a reason with the names of the parties
abbrev pub named_fault : List (List ℕ) → InputFault Reason → InputFault Refusal
named_fault names fault = retold (λ reason. record { reason = reason; names = names }) fault

-- the status where the reading of an input stopped
abbrev pub unread : InputFault Refusal → Status
unread (Refused r) = status.Refused r.reason r.names
unread ReadFault = status.ReadFault
unread TooLong = status.TooLong
unread NoMemory = status.NoMemory
