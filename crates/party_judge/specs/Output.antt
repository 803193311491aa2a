-- What is written of a text, or the first reason why it isn't judged.
use Rattle.std.specs.Prelude.{◌==◌, ◌++◌, ℕ, not, List, length, Result, Ok}
use Rattle.swap_base.specs.Fault.{◌>>=◌}
use Rattle.ledger_core.specs.Book.{Histories}
use Rattle.swap_job.specs.declared.job.Job.{Job}
use Rattle.outcome_rules.specs.declared.report.Report.{Report}
use Rattle.run_texts.specs.Report as reports
use Rattle.audit_command.specs.Output.{judged, story}
use Rattle.command_input.specs.Written.{Written}
use Rattle.party_rows.specs.Lines.{ended_lines}
use Rattle.party_terms.specs.Terms.{AgreedState, parse_agreed}
use Rattle.party_terms.specs.Text.{digest_lines}
use Rattle.party_judge.specs.declared.reason.JudgeReason.{JudgeReason}
use Rattle.party_judge.specs.declared.form.Form.{Form}
use Rattle.party_judge.specs.declared.form.Form.TheVariants.{Lines, Json}
use Rattle.party_judge.specs.Agreements.{agreements}
use Rattle.party_judge.specs.Faults.{by_refusal}
use Rattle.party_judge.specs.Json.{judgement_json}
use Rattle.party_judge.specs.Ledgers.{ledgers_read}
use Rattle.party_judge.specs.Marks.{mark_lines}
use Rattle.party_judge.specs.Told.{told_so_far}

-- the text: which deal it is, the report as an audit writes it, and a line for each finding
unfoldable pub judgement_text : Job → List ℕ → Histories → Report → List ℕ
judgement_text job digest b r = (digest_lines job.deal.id digest ++ reports.report job b r) ++ mark_lines job.deal r

-- the text in either form
unfoldable pub judgement_in : Form → Job → List ℕ → Histories → Report → List ℕ
judgement_in Lines job digest b r = judgement_text job digest b r
judgement_in Json job digest b r = judgement_json job digest b r

abbrev pub judgement : Form → Job → List ℕ → Histories → Report → Written
judgement form job digest b r = record { text = judgement_in form job digest b r; found = not (length r.findings == 0) }

-- what is written of a job and its book, by the digest that was agreed on
unfoldable pub book_judgement : Form → List ℕ → Job × Histories → Result Written JudgeReason
book_judgement form digest told = do
  report ← by_refusal (judged (story told.0 told.1))
  Ok (judgement form told.0 digest told.1 report)

-- what is written of what was agreed on, by the lines behind it
unfoldable pub agreed_judgement : Form → AgreedState × List (List ℕ) → Result Written JudgeReason
agreed_judgement form agreed = do
  behind ← agreements agreed.0.job.names agreed.0.digest agreed.0.next agreed.1
  told ← by_refusal (told_so_far (ledgers_read agreed.0.job behind.0 behind.1))
  book_judgement form agreed.0.digest told

-- what is written of lines
unfoldable pub lines_judgement : Form → List (List ℕ) → Result Written JudgeReason
lines_judgement form ls = do
  agreed ← by_refusal (parse_agreed 1 ls)
  agreed_judgement form agreed

-- what is written of a text: a header line, lines of context, lines of what parties agreed on, and
-- the ledgers as a transcript has them
unfoldable pub judge_output : Form → List ℕ → Result Written JudgeReason
judge_output form text = by_refusal (ended_lines text) >>= lines_judgement form
