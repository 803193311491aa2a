-- Reasons with the names of the parties that they may speak of.
use Rattle.std.specs.Prelude.{◌≡◌, ℕ, List, Result, Ok, Err}
use Rattle.swap_base.specs.Fault.{Is}
use Rattle.swap_base.specs.declared.fault.Fault.{Fault}
use Rattle.swap_base.specs.declared.fault.Fault.TheVariants.{Refused, NoMemory}
use Rattle.command_input.specs.declared.reason.Reason.{Reason}
use Rattle.command_input.specs.declared.refusal.Refusal.{Refusal}

-- where P holds of one reason alone, the fault says that reason, or that memory ran out
abbrev pub SaysOnly : (Reason → Type 0) → Fault Reason → Type 0
SaysOnly P fault = (reason : Reason) → ((given : Reason) → P given → given ≡ reason) → Is fault reason

abbrev pub refusal : List (List ℕ) → Reason → Refusal
refusal names reason = record { reason = reason; names = names }

abbrev pub fault_with_names : List (List ℕ) → Fault Reason → Fault Refusal
fault_with_names names (Refused reason) = Refused (refusal names reason)
fault_with_names names NoMemory = NoMemory

-- what was read, or the reason against it with the names
abbrev pub named_result : {A : Type 0} → List (List ℕ) → Result A Reason → Result A Refusal
named_result names (Ok x) = Ok x
named_result names (Err reason) = Err (refusal names reason)
