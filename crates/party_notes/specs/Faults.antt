-- Faults that answer.
use Rattle.swap_base.specs.declared.fault.Fault.{Fault}
use Rattle.swap_base.specs.declared.fault.Fault.TheVariants.{Refused, NoMemory}
use Rattle.command_input.specs.declared.reason.Reason.{Reason}
use Rattle.command_input.specs.declared.refusal.Refusal.{Refusal}
use Rattle.party_rows.specs.Lines.{nameless}
use Rattle.party_notes.specs.declared.reason.AnswerReason.{AnswerReason}
use Rattle.party_notes.specs.declared.reason.AnswerReason.TheVariants as reasons

abbrev pub refusal_fault : Fault Refusal → Fault AnswerReason
refusal_fault (Refused refusal) = Refused (reasons.Refused refusal)
refusal_fault NoMemory = NoMemory

-- a fault whose reason speaks of no party by its number
abbrev pub reason_fault : Fault Reason → Fault AnswerReason
reason_fault (Refused reason) = Refused (reasons.Refused (nameless reason))
reason_fault NoMemory = NoMemory
