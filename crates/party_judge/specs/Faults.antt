-- Faults of a judgement.
use Rattle.std.specs.Prelude.{Result, Ok, Err}
use Rattle.swap_base.specs.declared.fault.Fault.{Fault}
use Rattle.swap_base.specs.declared.fault.Fault.TheVariants as faults
use Rattle.command_input.specs.declared.refusal.Refusal.{Refusal}
use Rattle.party_judge.specs.declared.reason.JudgeReason.{JudgeReason}
use Rattle.party_judge.specs.declared.reason.JudgeReason.TheVariants.{Refused}

abbrev pub refusal_fault : Fault Refusal → Fault JudgeReason
refusal_fault (faults.Refused refusal) = faults.Refused (Refused refusal)
refusal_fault faults.NoMemory = faults.NoMemory

abbrev pub by_refusal : {A : Type 0} → Result A Refusal → Result A JudgeReason
by_refusal (Ok x) = Ok x
by_refusal (Err r) = Err (Refused r)
