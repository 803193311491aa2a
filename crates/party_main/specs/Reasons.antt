-- Why the program `party` writes nothing, and the line of each reason.
use Rattle.std.specs.Prelude.{ℕ, List, [], ◌∷◌, codes}
use Rattle.hex.specs.Hex.{encode_lower}
use Rattle.swap_base.specs.declared.fault.Fault.{Fault}
use Rattle.swap_base.specs.declared.fault.Fault.TheVariants as faults
use Rattle.swap_base.specs.Text.{joined}
use Rattle.command_input.specs.declared.refusal.Refusal.{Refusal}
use Rattle.command_input.specs.StandardError.{refusal_text}
use Rattle.party_rows.specs.declared.reason.DealReason.{DealReason}
use Rattle.party_rows.specs.declared.reason.DealReason.TheVariants as deals
use Rattle.party_notes.specs.declared.reason.AnswerReason.{AnswerReason}
use Rattle.party_notes.specs.declared.reason.AnswerReason.TheVariants as answers
use Rattle.party_judge.specs.declared.reason.JudgeReason.{JudgeReason}
use Rattle.party_judge.specs.declared.reason.JudgeReason.TheVariants as judgements
use Rattle.party_main.specs.declared.reason.PartyReason.{PartyReason}
use Rattle.party_main.specs.declared.reason.PartyReason.TheVariants.{Header, Deal, Next, Judge}

-- ---- faults

abbrev pub header_fault : Fault Refusal → Fault PartyReason
header_fault (faults.Refused refusal) = faults.Refused (Header refusal)
header_fault faults.NoMemory = faults.NoMemory

abbrev pub deal_fault : Fault DealReason → Fault PartyReason
deal_fault (faults.Refused reason) = faults.Refused (Deal reason)
deal_fault faults.NoMemory = faults.NoMemory

abbrev pub answer_fault : Fault AnswerReason → Fault PartyReason
answer_fault (faults.Refused reason) = faults.Refused (Next reason)
answer_fault faults.NoMemory = faults.NoMemory

abbrev pub judge_fault : Fault JudgeReason → Fault PartyReason
judge_fault (faults.Refused reason) = faults.Refused (Judge reason)
judge_fault faults.NoMemory = faults.NoMemory

-- ---- lines

abbrev pub deal_line : DealReason → List ℕ
deal_line (deals.Refused r) = refusal_text r.names r.reason
deal_line (deals.NoRow name) = joined (codes "swap: refused: NoRow " ∷ name ∷ codes "\n" ∷ [])

-- what stands there has this digest, and not the one that was told
abbrev pub not_agreed_line : List ℕ → List ℕ
not_agreed_line digest = joined (codes "swap: refused: NotAgreed " ∷ encode_lower digest ∷ codes "\n" ∷ [])

abbrev pub answer_line : AnswerReason → List ℕ
answer_line (answers.Refused r) = refusal_text r.names r.reason
answer_line (answers.NotAgreed digest) = not_agreed_line digest

abbrev pub judge_line : JudgeReason → List ℕ
judge_line (judgements.Refused r) = refusal_text r.names r.reason
judge_line (judgements.NotAgreed digest) = not_agreed_line digest

-- the line of a reason
abbrev pub reason_line : PartyReason → List ℕ
reason_line (Header r) = refusal_text r.names r.reason
reason_line (Deal reason) = deal_line reason
reason_line (Next reason) = answer_line reason
reason_line (Judge reason) = judge_line reason
