-- Faults that answer.
use Rattle.std.proofs.Common.{◌≡◌, Result, ap, sym, subst}
use Rattle.swap_base.specs.declared.fault.Fault.{Fault}
use Rattle.swap_base.specs.declared.fault.Fault.TheVariants.{Refused, NoMemory}
use Rattle.swap_base.specs.Fault.{Fails}
use Rattle.command_input.specs.declared.reason.Reason.{Reason}
use Rattle.command_input.specs.declared.refusal.Refusal.{Refusal}
use Rattle.party_notes.specs.declared.reason.AnswerReason.{AnswerReason}
use Rattle.party_notes.specs.Asked.{as_answer_reason, by_refusal}
use Rattle.party_notes.specs.Faults.{reason_fault, refusal_fault}

refused : {A : Type 0} (f : Fault Refusal) (r : Result A Refusal) → Fails f r → Fails (refusal_fault f) (by_refusal r)
refused (Refused e) r h = ap by_refusal h
refused NoMemory r h = tt

pub fails_by_refusal : {A : Type 0} (r : Result A Refusal) (f : Fault Refusal) (g : Fault AnswerReason) → g ≡ refusal_fault f → Fails f r → Fails g (by_refusal r)
fails_by_refusal r f g e h = subst (λ (z : Fault AnswerReason). Fails z (by_refusal r)) (sym e) (refused f r h)

reasoned : {A : Type 0} (f : Fault Reason) (r : Result A Reason) → Fails f r → Fails (reason_fault f) (as_answer_reason r)
reasoned (Refused e) r h = ap as_answer_reason h
reasoned NoMemory r h = tt

pub fails_by_reason : {A : Type 0} (r : Result A Reason) (f : Fault Reason) (g : Fault AnswerReason) → g ≡ reason_fault f → Fails f r → Fails g (as_answer_reason r)
fails_by_reason r f g e h = subst (λ (z : Fault AnswerReason). Fails z (as_answer_reason r)) (sym e) (reasoned f r h)
