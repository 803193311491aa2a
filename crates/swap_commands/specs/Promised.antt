-- What the program promises of the very histories that a report shows.
use Rattle.std.specs.Prelude.{◌≡◌, ◌<◌, ◌≤◌, ◌*◌, ℕ, Bool, List, [], length, Result, Ok}
use Rattle.swap_base.specs.Lists.{IsElement}
use Rattle.ledger_core.specs.Book.{Histories}
use Rattle.swap_job.specs.declared.event.Event.{Event}
use Rattle.swap_job.specs.declared.job.Job.{Job}
use Rattle.swap_job.specs.declared.job.Finish.TheVariants.{Fair}
use Rattle.swap_rules.specs.declared.finding.Finding.TheVariants.{Late}
use Rattle.swap_rules.specs.declared.finding.Rule.{Rule}
use Rattle.swap_rules.specs.Accepted.{IsAccepted}
use Rattle.swap_rules.specs.Outcome.{IsEnded}
use Rattle.swap_rules.specs.Laws.{FindsNothing, IsTransferred}
use Rattle.swap_run.specs.Laws.{IsKept}
use Rattle.swap_run.specs.Asked.{Answers}
use Rattle.swap_world.specs.Cast.{job_cast}
use Rattle.swap_world.specs.Gone.{MayGive}
use Rattle.outcome_rules.specs.declared.report.Report.{Report}
use Rattle.outcome_rules.specs.Report.{is_conforming_party}
use Rattle.outcome_rules.specs.Promises.{AllAreConforming, AllArePaid, AllAreWhole, AllHaveRefunds, NobodyGains, NoneIsUnderwater, NoneLosesUnits, shown_outcome, UnpublishedLoseNothing, WatchfulAreWhole}
use Rattle.swap_auditor.specs.Audit.{AreUnitsConserved}
use Rattle.command_input.specs.Written.{Written}
use Rattle.audit_command.specs.Promised.{IsAudit}
use Rattle.command_input.specs.declared.reason.Reason.{Reason}
use Rattle.swap_offer.specs.Job.{parse_job}
use Rattle.command_input.specs.Lines.{collect_lines, filled_lines}
use Rattle.swap_many.specs.Chains.{Setup}
use Rattle.swap_many.specs.Many.{Run as ManyRun}
use Rattle.swap_many.specs.Kept.{Kept}
use Rattle.swap_many.specs.Laws.{Follows}
use Rattle.swap_many.specs.Value.{AreUnitsPlaced}
use Rattle.swap_many.specs.declared.many_event.ManyEvent.{ManyEvent}
use Rattle.swap_many.specs.declared.place.Place.{Place}
use Rattle.many_lines.specs.Places.{job_of_swap}
use Rattle.many_lines.specs.Setup.{setup_with_answers}
use Rattle.many_lines.specs.declared.many_job.ManyJob.{ManyJob}
use Rattle.many_text.specs.ManyText.{swap_book, kept_report}
use Rattle.party_threads.specs.Race.{IsRaceBook}
use Rattle.swap_commands.specs.Cleared.{IsClearing}
use Rattle.swap_commands.specs.Many.{Headed, events_told, headed, many_state, many_written, opened_places, finished_run}
use Rattle.swap_world.specs.Recorded.{AreRecorded}
use Rattle.swap_commands.specs.Output.{AreGiven, Chance, collected_book, command_cast, run_state, command_purpose, book_report, reported, written_check}
use Rattle.made_jobs.specs.Making.{IsMade}
use Rattle.swap_commands.specs.Words.{Command, OfJob, Audit, Clear, Many, JobCommand, Check, Run, Race, Make}

-- What a run and a race promise of their histories, where r is the report.
pub record IsPromised (job : Job) (b : Histories) (r : Report) : Type 0 where
  pub accepted : IsAccepted job.deal
  -- whatever the others do, the book is legal and every conforming party is conducted
  pub kept : IsKept (job_cast job) b
  pub units : AreUnitsConserved job.deal b
  -- a conforming party that no finding endangers doesn't end underwater, and one that none strands
  -- has its refunds
  pub safe : NoneIsUnderwater job.deal job.conforming (shown_outcome r) r.findings
  pub refunds : AllHaveRefunds job.deal job.conforming b r.findings
  -- nobody gains by cheating, alone or together, unless a conforming party is endangered or forged
  pub gains : NobodyGains job.deal job.conforming b (shown_outcome r) r.findings
  -- in units: one that no finding endangers is paid in full as soon as it lost an arc, and one that
  -- none strands either lost nothing, or is paid in full
  pub paid : AllArePaid job.deal job.conforming b r.findings
  pub lossless : NoneLosesUnits job.deal job.conforming b r.findings
  -- whatever is found: a conducted and watchful party is safe and has its units, and a party that
  -- published and transferred nothing has lost nothing
  pub watchful : WatchfulAreWhole job.deal b
  pub unpublished : UnpublishedLoseNothing job.deal b
  -- where all conform and nothing is found, all is transferred, and the report shows each party
  -- with the whole deal
  pub transfer : AllAreConforming job.deal job.conforming → r.findings ≡ [] → IsTransferred job.deal b accepted
  pub whole : AllAreConforming job.deal job.conforming → r.findings ≡ [] → AllAreWhole job.deal r
  -- where nothing is found, every ledger has ended, and every conforming party kept what the laws
  -- ask for
  pub nothing : r.findings ≡ [] → FindsNothing job.deal (is_conforming_party job.conforming) b

-- A run that wrote its output, the report or the transcript, where strategies answered a: its job
-- and its events, as they were read, and what it promises.
pub record IsRun (gives : MayGive) (a : Answers) (transcript : Bool) (read : Result (Job × List Event) Reason) (output : Written) : Type 0 where
  pub job : Job
  pub events : List Event
  pub is_read : read ≡ Ok (job, events)
  -- each answer is one that its strategy may give to what it was asked
  pub given : AreGiven gives job.deal a (run_state a job events).asked
  pub shown : output ≡ reported transcript job (collected_book a job events)
  pub promised : IsPromised job (collected_book a job events) (book_report job (collected_book a job events))
  -- whatever crashes came, the disk of each conforming party has recorded each hashkey that the
  -- party presented
  pub recorded : AreRecorded (command_cast a job) (run_state a job events)
  -- a fair finish ends every ledger
  pub ended : job.finish ≡ Fair → IsEnded job.deal (collected_book a job events)
  -- a fair finish finds nothing where all conform and no event came before it
  pub fair : job.finish ≡ Fair → events ≡ [] → AllAreConforming job.deal job.conforming → (book_report job (collected_book a job events)).findings ≡ []

-- A race that wrote its output, the report or the transcript: its job, as it was read without an
-- event, the book that it came to, and what it promises.
pub record IsRace (gives : MayGive) (b : Histories) (ticks : ℕ) (transcript : Bool) (read : Result (Job × List Event) Reason) (output : Written) : Type 0 where
  pub job : Job
  pub is_read : read ≡ Ok (job, [])
  -- the book is what a race with `ticks` ticks a round makes, whatever the order of its threads
  pub raced : IsRaceBook gives (job_cast job) ticks b
  pub shown : output ≡ reported transcript job b
  pub promised : IsPromised job b (book_report job b)
  -- nobody is named late where two rounds' ticks fit in delta
  pub on_time : 2 * ticks ≤ job.deal.delta → (v : ℕ) (rule : Rule) (a due : ℕ) → ¬ IsElement (Late v rule a due) (book_report job b).findings
  -- nothing is found where two rounds' ticks fit in delta and all conform
  pub dealt : 2 * ticks ≤ job.deal.delta → AllAreConforming job.deal job.conforming → (book_report job b).findings ≡ []

-- A check that wrote its output: its job and its events, as they were read, and the deal is
-- accepted.
pub record IsCheck (read : Result (Job × List Event) Reason) (output : Written) : Type 0 where
  pub job : Job
  pub events : List Event
  pub is_read : read ≡ Ok (job, events)
  pub shown : output ≡ written_check job
  pub accepted : IsAccepted job.deal

-- A plain job that was made: it was read, and what is made of it is accepted, with each party's own
-- keys.
pub record IsMaking (read : Result (Job × List Event) Reason) (output : Written) : Type 0 where
  pub job : Job
  pub is_read : read ≡ Ok (job, [])
  pub made : IsMade job

-- What several swaps on the chains m promise: r is their run by the histories of the chains, and
-- what z holds is shown.
pub record AreManyPromised (many : ManyJob) (m : Setup) (r : ManyRun) (z : Kept) : Type 0 where
  -- the books, the heights, the free accounts and the swept slots are those of the histories
  pub follows : Follows m r z
  -- each swap promises what a run of it alone does
  pub swaps : (s : ℕ) → s < length many.jobs → IsPromised (job_of_swap many.jobs s) (swap_book z s) (kept_report z s (job_of_swap many.jobs s))
  -- on each chain all units are in one place
  pub units : AreUnitsPlaced m r

-- A run of several swaps that wrote its output, where the strategies of swap s answered g s: the
-- swaps, their events and places, as they were read, and what they promise.
pub record IsManyRun (has : List ℕ → Bool) (gives : MayGive) (g : ℕ → Answers) (input : List ℕ) (output : Written) : Type 0 where
  pub head : Headed
  pub events : List ManyEvent
  pub places : List (List Place)
  pub is_headed : headed has (filled_lines 1 (collect_lines input)) ≡ Ok head
  pub are_told : events_told head.many 0 head.lines ≡ Ok events
  pub are_placed : opened_places head.many ≡ Ok places
  -- each answer is one that its strategy may give to what it was asked
  pub given : (s : ℕ) → AreGiven gives (job_of_swap head.many.jobs s).deal (g s) ((many_state g head.many places head.finish events).swaps s).asked
  pub shown : output ≡ many_written head.many (many_state g head.many places head.finish events)
  pub promised : AreManyPromised head.many (setup_with_answers g head.many places) (finished_run head.finish (setup_with_answers g head.many places) events)
      (many_state g head.many places head.finish events)
  -- a fair finish ends every ledger of every swap
  pub ended : head.finish ≡ Fair → (s : ℕ) → s < length head.many.jobs
      → IsEnded (job_of_swap head.many.jobs s).deal (swap_book (many_state g head.many places head.finish events) s)
  -- a fair finish finds nothing of a swap whose parties all conform, where no event came before it
  pub fair : head.finish ≡ Fair → events ≡ [] → (s : ℕ) → s < length head.many.jobs
      → AllAreConforming (job_of_swap head.many.jobs s).deal (job_of_swap head.many.jobs s).conforming
      → (kept_report (many_state g head.many places head.finish events) s (job_of_swap head.many.jobs s)).findings ≡ []

-- what the output of a command promises, by what was read of a job
abbrev pub AsRead : MayGive → Chance → JobCommand → Result (Job × List Event) Reason → Written → Type 0
AsRead gives chance (Run transcript) read output = IsRun gives chance.answers transcript read output
AsRead gives chance (Race ticks transcript) read output = IsRace gives chance.book ticks transcript read output
AsRead gives chance Check read output = IsCheck read output
AsRead gives chance Make read output = IsMaking read output

-- what the output of a command promises for an input, where chance decided so
abbrev pub AsPromised : (List ℕ → Bool) → MayGive → Chance → Command → List ℕ → Written → Type 0
AsPromised has gives chance (OfJob command) input output = AsRead gives chance command (parse_job has (command_purpose command) input) output
AsPromised has gives chance Audit input output = IsAudit input output
AsPromised has gives chance Clear input output = IsClearing input output
AsPromised has gives chance Many input output = IsManyRun has gives chance.many input output
