-- What the program `party` writes of an input, by its command, or the first reason against it.
use Rattle.std.specs.Prelude.{ℕ, false, List, Result, Ok, Err}
use Rattle.command_input.specs.declared.refusal.Refusal.{Refusal}
use Rattle.party_rows.specs.declared.reason.DealReason.{DealReason}
use Rattle.party_rows.specs.Dealt.{IsDealtText}
use Rattle.party_rows.specs.Keys.{deal_output, keys_output}
use Rattle.party_terms.specs.Terms.{terms_output}
use Rattle.party_answer.specs.declared.given.Answer.{Answer}
use Rattle.party_notes.specs.declared.reason.AnswerReason.{AnswerReason}
use Rattle.party_main.specs.declared.command.Command.{Command}
use Rattle.party_main.specs.declared.command.Command.TheVariants.{Keys, Deal, Terms, Next, Judge}
use Rattle.party_main.specs.declared.reason.PartyReason.{PartyReason}
use Rattle.party_main.specs.declared.reason.PartyReason.TheVariants as reasons
use Rattle.command_input.specs.Written.{Written}
use Rattle.party_judge.specs.declared.form.Form.{Form}
use Rattle.party_judge.specs.declared.reason.JudgeReason.{JudgeReason}
use Rattle.party_judge.specs.Output.{judge_output}
use Rattle.party_judge.specs.Promised.{IsJudgement}
use Rattle.party_main.specs.Next.{next_output, IsInputAnswer}

-- a text in which nothing warns
abbrev pub calm : List ℕ → Answer
calm text = record { text = text; warns = false }

abbrev pub by_header : Result (List ℕ) Refusal → Result Answer PartyReason
by_header (Ok text) = Ok (calm text)
by_header (Err refusal) = Err (reasons.Header refusal)

abbrev pub by_deal : Result (List ℕ) DealReason → Result Answer PartyReason
by_deal (Ok text) = Ok (calm text)
by_deal (Err reason) = Err (reasons.Deal reason)

abbrev pub by_answer : Result Answer AnswerReason → Result Answer PartyReason
by_answer (Ok answer) = Ok answer
by_answer (Err reason) = Err (reasons.Next reason)

-- a judgement warns where something is found
abbrev pub by_judgement : Result Written JudgeReason → Result Answer PartyReason
by_judgement (Ok w) = Ok (record { text = w.text; warns = w.found })
by_judgement (Err reason) = Err (reasons.Judge reason)

abbrev pub IsPromisedJudgement : Form → List ℕ → Answer → Type 0
IsPromisedJudgement form input answer = IsJudgement form input (record { text = answer.text; found = answer.warns })

-- what is written of an input for a command
abbrev pub party_output : Command → List ℕ → Result Answer PartyReason
party_output (Keys name) input = by_header (keys_output name input)
party_output Deal input = by_deal (deal_output input)
party_output (Terms name) input = by_header (terms_output name input)
party_output (Next name) input = by_answer (next_output name input)
party_output (Judge form) input = by_judgement (judge_output form input)

-- What holds of what is written of an input beside: a deal's line is that of an accepted deal, and
-- an answer and a judgement are promised.
abbrev pub IsPromisedOutput : Command → List ℕ → Answer → Type 0
IsPromisedOutput (Keys name) input answer = Unit {0}
IsPromisedOutput Deal input answer = IsDealtText answer.text
IsPromisedOutput (Terms name) input answer = Unit {0}
IsPromisedOutput (Next name) input answer = IsInputAnswer name input answer
IsPromisedOutput (Judge form) input answer = IsPromisedJudgement form input answer
