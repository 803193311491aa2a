-- What is written for an input.
use Rattle.std.specs.Prelude.{◌≡◌, ◌<◌, ◌==◌, ℕ, ◌∷◌, [], Bool, true, false, not, List, drop, length, slice_index_or, codes, decimal, None, Result, Ok, Err}
use Rattle.swap_base.specs.Fault.{◌>>=◌}
use Rattle.swap_base.specs.Text.{joined}
use Rattle.time_bounds.specs.Times as times
use Rattle.swap_digraph.specs.declared.deal.Deal.{Deal}
use Rattle.ledger_core.specs.Book.{Histories}
use Rattle.swap_job.specs.declared.event.Event.{Event}
use Rattle.swap_job.specs.declared.job.Job.{Job}
use Rattle.swap_job.specs.declared.job.Purpose.TheVariants as purposes
use Rattle.outcome_rules.specs.declared.report.Report.{Report}
use Rattle.outcome_rules.specs.Report.{build_report}
use Rattle.run_texts.specs.Report.{report}
use Rattle.transcript_book.specs.Lines.{transcript as transcript_text}
use Rattle.audit_command.specs.Output.{audit_output}
use Rattle.command_input.specs.declared.reason.Reason.{Reason}
use Rattle.command_input.specs.declared.reason.Reason.TheVariants.{BadLine, NotJson}
use Rattle.swap_clear.specs.ClearedText.{cleared_line}
use Rattle.command_input.specs.declared.refusal.Refusal.{Refusal}
use Rattle.swap_job.specs.declared.job.Purpose.{Purpose}
use Rattle.swap_offer.specs.Checks.{deal_need}
use Rattle.command_input.specs.Lines.{collect_lines, filled_lines}
use Rattle.swap_offer.specs.Job.{parse_job, names_of_offer}
use Rattle.made_jobs.specs.Making.{made_text}
use Rattle.swap_job.specs.declared.job.Finish.{Finish}
use Rattle.swap_job.specs.declared.job.Finish.TheVariants.{Stop, Fair}
use Rattle.swap_run.specs.Asked.{Answers, with_answers}
use Rattle.swap_run.specs.Run.{Cast, Question, State, run}
use Rattle.swap_run.specs.Fair.{finish}
use Rattle.swap_world.specs.Cast.{job_cast}
use Rattle.swap_world.specs.Gone.{MayGive}
use Rattle.command_input.specs.Written.{Written}
use Rattle.swap_commands.specs.Words.{Command, OfJob, Audit, Clear, Many, JobCommand, Check, Run, Race, Make}
use Rattle.swap_commands.specs.Many.{many_output}

-- the text of a checked offer
unfoldable pub check_text : Deal → List ℕ
check_text d = joined (codes "swap accepted\nneed " ∷ decimal (deal_need d) ∷ codes "\nopen by " ∷ decimal
    (times.opening_deadline d.start d.delta d.bound) ∷ codes "\nexpiry " ∷ decimal (times.last_expiry d.start d.delta d.bound) ∷ codes "\nhorizon " ∷ decimal
    (times.horizon d.start d.delta d.bound) ∷ codes "\n" ∷ [])

-- the text of a run or a race: the report r of its book, or where it is asked for the transcript
abbrev pub run_text : Bool → Job → Histories → Report → List ℕ
run_text false job b r = report job b r
run_text true job b r = transcript_text job b

-- either tells of a finding where the report does
abbrev pub with_report : Bool → Job → Histories → Report → Written
with_report transcript job b r = record { text = run_text transcript job b r; found = not (length r.findings == 0) }

-- the report of a job's book
abbrev pub book_report : Job → Histories → Report
book_report job b = build_report job.deal job.conforming b

-- what is written of a job's book
unfoldable pub reported : Bool → Job → Histories → Written
reported transcript job b = with_report transcript job b (book_report job b)

-- what a finish makes of a state: nothing more is done, or the fair finish is
abbrev pub finished_state : Finish → Cast → State → State
finished_state Stop c s = s
finished_state Fair c s = finish c s

-- who takes part in a job's run, where strategies answer a
abbrev pub command_cast : Answers → Job → Cast
command_cast a job = with_answers (job_cast job) a

-- the state to which a job's run leads: after its events, and then after its finish
abbrev pub run_state : Answers → Job → List Event → State
run_state a job events = finished_state job.finish (command_cast a job) (run (command_cast a job) events)

-- its histories
abbrev pub collected_book : Answers → Job → List Event → Histories
collected_book a job events = (run_state a job events).book

-- each answer to these questions is one that its strategy may give
abbrev pub AreGiven : MayGive → Deal → Answers → List Question → Type 0
AreGiven gives d a asked = (i : ℕ) (q : Question) → i < length asked → q ≡ slice_index_or asked i q → gives q.strategy d q.party q.turn q.known (a i)

-- what is told of a checked offer
abbrev pub written_check : Job → Written
written_check job = record { text = check_text job.deal; found = false }

-- a text that tells of no finding
abbrev pub plain_text : List ℕ → Written
plain_text text = record { text = text; found = false }

-- what a job is read for
abbrev pub command_purpose : JobCommand → Purpose
command_purpose (Run transcript) = purposes.Run
command_purpose (Race ticks transcript) = purposes.Race
command_purpose Check = purposes.Check
command_purpose Make = purposes.Make

-- What an input doesn't decide: the answers of strategies in a run, the book of a race, and the
-- answers of the strategies of several swaps.
pub record Chance : Type 0 where
  pub answers : Answers
  pub book : Histories
  pub many : ℕ → Answers

-- strategies answer a, and nothing is raced
abbrev pub by_answers : Answers → Chance
by_answers a = record { answers = a; book = []; many = λ s k. None }

-- a race comes to the book, and no strategy is asked in a run
abbrev pub by_book : Histories → Chance
by_book b = record { answers = λ k. None; book = b; many = λ s k. None }

-- the strategies of swap s answer g s, and nothing else is run
abbrev pub by_many : (ℕ → Answers) → Chance
by_many g = record { answers = λ k. None; book = []; many = g }

-- what a command writes for a job and its events, which are those of these lines
abbrev pub job_output : Chance → JobCommand → List (ℕ × List ℕ) → Result (Job × List Event) Reason → Result Written Reason
job_output chance (Run transcript) lines read = read >>= λ j. Ok (reported transcript j.0 (collected_book chance.answers j.0 j.1))
job_output chance (Race ticks transcript) lines read = read >>= λ j. Ok (reported transcript j.0 chance.book)
job_output chance Check lines read = read >>= λ j. Ok (written_check j.0)
job_output chance Make lines read = read >>= λ j. Ok (plain_text (made_text j.0 (drop 1 lines)))

-- no further line
abbrev pub refuse_further_line : List (ℕ × List ℕ) → Result (Unit {0}) Reason
refuse_further_line [] = Ok tt
refuse_further_line (l ∷ ls) = Err (BadLine l.0)

-- what is written of wishes, by the lines of their input, or the first reason why they are refused:
-- the line's own first, and then a further line
abbrev pub wish_lines_output : List (ℕ × List ℕ) → Result Written Reason
wish_lines_output [] = Err (NotJson 1)
wish_lines_output (l ∷ ls) = cleared_line l.0 l.1 >>= λ text. refuse_further_line ls >>= λ u. Ok (plain_text text)

unfoldable pub clear_output : List ℕ → Result Written Reason
clear_output input = wish_lines_output (filled_lines 1 (collect_lines input))

-- the reason of a refusal
abbrev pub reason_alone : Result Written Refusal → Result Written Reason
reason_alone (Ok output) = Ok output
reason_alone (Err refusal) = Err refusal.reason

-- the names of the parties that a refusal may speak of
abbrev pub names_told : Result Written Refusal → List (List ℕ)
names_told (Ok output) = []
names_told (Err refusal) = refusal.names

-- what a command writes for an input, or the first reason why the input is refused; `has` tells
-- which strategies exist, and `chance` has what the input doesn't decide
unfoldable pub output_given_chance : (List ℕ → Bool) → Chance → Command → List ℕ → Result Written Reason
output_given_chance has chance (OfJob command) input = job_output chance command (filled_lines 1 (collect_lines input)) (parse_job has (command_purpose command) input)
output_given_chance has chance Audit input = reason_alone (audit_output input)
output_given_chance has chance Clear input = clear_output input
output_given_chance has chance Many input = reason_alone (many_output has chance.many input)

-- strategies that never call, and a race without a ledger
abbrev pub no_chance : Chance
no_chance = by_answers (λ k. None)

-- what a command writes if strategies never call and a race has no ledger. A reason to refuse is
-- the same whatever chance decides. So is a text for which no strategy is asked and nothing is
-- raced.
abbrev pub command_output : (List ℕ → Bool) → Command → List ℕ → Result Written Reason
command_output has command input = output_given_chance has no_chance command input

-- the names of parties that the reason may mention. For a job they are those of the header, and
-- none if the header isn't within its limits. For an audit and for several swaps they come with the
-- refusal. For wishes there are none, since no reason there mentions a party by its number.
unfoldable pub refusal_names : (List ℕ → Bool) → Command → List ℕ → List (List ℕ)
refusal_names has (OfJob command) input = names_of_offer has (command_purpose command) input
refusal_names has Audit input = names_told (audit_output input)
refusal_names has Clear input = []
refusal_names has Many input = names_told (many_output has (λ s k. None) input)
