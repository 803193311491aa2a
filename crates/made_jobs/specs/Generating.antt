-- What is written of the job that a number gives: the job with its events, or the summary of its
-- run.
use Rattle.std.specs.Prelude.{◌≡◌, ◌==◌, ℕ, ◌++◌, ◌-◌, Bool, not, List, drop, length}
use Rattle.swap_base.specs.Text.{lines}
use Rattle.ledger_core.specs.Book.{Histories}
use Rattle.swap_job.specs.declared.job.Job.{Job}
use Rattle.swap_run.specs.Run.{run}
use Rattle.swap_run.specs.Fair.{finish}
use Rattle.swap_world.specs.Cast.{job_cast}
use Rattle.swap_world.specs.Value.{WorldState}
use Rattle.outcome_rules.specs.Report.{build_report}
use Rattle.swap_gen.specs.Drawn.{drawn_graph, generated}
use Rattle.swap_gen.specs.Events.{drawn_events, generated_events, GeneratorState}
use Rattle.swap_gen.specs.Line.{event_line}
use Rattle.made_jobs.specs.Summary.{summary}
use Rattle.made_jobs.specs.Making.{written_line}

-- the header line of the job, and a line for each of its first `events` events
unfoldable pub generated_text : (seed parties events : ℕ) → List ℕ
generated_text seed parties events =
    written_line (generated seed parties) ++ lines (λ _. event_line (generated seed parties).names) 0 (generated_events seed parties events)

-- the histories after the first `events` events and the fair finish
unfoldable pub generated_book : (seed parties events : ℕ) → Histories
generated_book seed parties events =
    (finish (job_cast (generated seed parties)) (run (job_cast (generated seed parties)) (generated_events seed parties events))).book

-- the summary of that run
unfoldable pub generated_summary : (seed parties events : ℕ) → List ℕ
generated_summary seed parties events = summary (generated seed parties) events (generated_book seed parties events)

-- whether something is found in a book of a job
abbrev pub is_found : Job → Histories → Bool
is_found job b = not (length (build_report job.deal job.conforming b).findings == 0)

-- The first `drawn` of a job's events were drawn, and the generator draws the next one.
pub record HasDrawnEvents (seed parties events drawn : ℕ) (g : GeneratorState) : Type 0 where
  pub seed_is : g.seed ≡ seed
  pub parties_are : g.parties ≡ parties
  pub rest : drawn_events seed (drawn_graph seed parties) g.place (events - drawn) ≡ drop drawn (generated_events seed parties events)

-- The world is of the job: of its deal, with its parties, their seeds and their roles.
pub record IsJobWorld (job : Job) (w : WorldState) : Type 0 where
  pub deal : w.deal ≡ job.deal
  pub conforming : w.conforming ≡ job.conforming
  pub seeds : w.seeds ≡ job.seeds
  pub roles : w.roles ≡ job.roles
