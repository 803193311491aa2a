-- What the calls of the library say: a status, and a text that they put into the caller's buffer.
use Rattle.std.specs.Prelude.{◌≡◌, ◌≤◌, ◌<◌, ◌++◌, ℕ, Bool, true, false, List, drop, length, Result, Ok, Err}
use Rattle.swap_rules.specs.Accepted.{IsAccepted}
use Rattle.swap_job.specs.declared.job.Job.{Job}
use Rattle.command_input.specs.declared.refusal.Refusal.{Refusal}
use Rattle.audit_command.specs.Header.{parse_deal_header}
use Rattle.party_answer.specs.declared.given.Answer.{Answer}
use Rattle.party_notes.specs.declared.reason.AnswerReason.{AnswerReason}
use Rattle.party_answer.specs.Promised.{IsTextAnswer}
use Rattle.party_rows.specs.Dealt.{IsDealtText}
use Rattle.party_rows.specs.declared.reason.DealReason.{DealReason}
use Rattle.command_input.specs.Written.{Written}
use Rattle.party_judge.specs.declared.form.Form.TheVariants.{Lines}
use Rattle.party_judge.specs.declared.reason.JudgeReason.{JudgeReason}
use Rattle.party_judge.specs.Promised.{IsJudgement}
use Rattle.party_main.specs.declared.reason.PartyReason.TheVariants.{Header, Deal, Next, Judge}
use Rattle.party_main.specs.Reasons.{reason_line}
use Rattle.swap_party.specs.declared.said.Said.{Said}

-- A text is put at the buffer's beginning where there is room for all of it, with that status. Else
-- the status is 1 and the buffer stays as it was. Either way the length is the text's.
pub record IsSaid (status : ℕ) (text old new : List ℕ) (said : Said) : Type 0 where
  pub size : said.length ≡ length text
  pub fits : length text ≤ length old → (said.status ≡ status) × (new ≡ text ++ drop (length text) old)
  pub short : length old < length text → (said.status ≡ 1) × (new ≡ old)

-- There is no text: the buffer stays as it was.
pub record IsNothing (status : ℕ) (old new : List ℕ) (said : Said) : Type 0 where
  pub code : said.status ≡ status
  pub empty : said.length ≡ 0
  pub kept : new ≡ old

-- ---- a row, a deal of rows, and terms

-- status 0 with a row or with terms, or 3 with the line of the first reason against the text
abbrev pub IsTextSaid : Result (List ℕ) Refusal → List ℕ → List ℕ → Said → Type 0
IsTextSaid (Ok text) old new said = IsSaid 0 text old new said
IsTextSaid (Err refusal) old new said = IsSaid 3 (reason_line (Header refusal)) old new said

-- status 0 with the header line of an accepted deal, or 3 with the line of the first reason against
-- the text
abbrev pub IsDealSaid : Result (List ℕ) DealReason → List ℕ → List ℕ → Said → Type 0
IsDealSaid (Ok text) old new said = IsDealtText text × IsSaid 0 text old new said
IsDealSaid (Err reason) old new said = IsSaid 3 (reason_line (Deal reason)) old new said

-- ---- what is due

-- What is asked for the party with this name and seed, by a text whose first line has number 2.
pub record Asked : Type 0 where
  pub name : List ℕ
  pub seed : List ℕ
  pub text : List ℕ

-- the status of an answer, by whether it warns
abbrev pub answer_status : Bool → ℕ
answer_status true = 2
answer_status false = 0

-- status 0, or 2 where it warns, with the answer, which is promised; or 3 with the line of the
-- first reason against the text
abbrev pub IsAnswerSaid : Asked → Result Answer AnswerReason → List ℕ → List ℕ → Said → Type 0
IsAnswerSaid q (Ok answer) old new said = IsTextAnswer 2 q.name q.seed q.text answer × IsSaid (answer_status answer.warns) answer.text old new said
IsAnswerSaid q (Err reason) old new said = IsSaid 3 (reason_line (Next reason)) old new said

-- ---- a judgement

-- status 0, or 2 where something is found, with the judgement, which is promised; or 3 with the line
-- of the first reason against the text
abbrev pub IsJudgeSaid : List ℕ → Result Written JudgeReason → List ℕ → List ℕ → Said → Type 0
IsJudgeSaid text (Ok w) old new said = IsJudgement Lines text w × IsSaid (answer_status w.found) w.text old new said
IsJudgeSaid text (Err reason) old new said = IsSaid 3 (reason_line (Judge reason)) old new said

-- ---- a header

-- the job of a header line as a transcript has it, or the first reason against it
abbrev pub header_said : List ℕ → Result Job Refusal
header_said line = parse_deal_header 1 line

-- status 0 with the id of its deal, which is an accepted one, or 3 with the line of the first
-- reason against it
abbrev pub IsCheckSaid : Result Job Refusal → List ℕ → List ℕ → Said → Type 0
IsCheckSaid (Ok job) old new said = IsAccepted job.deal × IsSaid 0 job.deal.id old new said
IsCheckSaid (Err refusal) old new said = IsSaid 3 (reason_line (Header refusal)) old new said
