-- What the bytes of an offer are: a job with its events, or the first reason against them.
use Rattle.std.specs.Prelude.{◌≡◌, ◌==◌, All, ℕ, ◌+◌, List, [], ◌∷◌, Bool, true, false, codes, length, map, Result, Ok, Err, if◌then◌else◌}
use Rattle.swap_base.specs.Fault.{◌>>=◌, steps}
use Rattle.swap_digraph.specs.Deal.{IsWellSized}
use Rattle.swap_job.specs.Roles.{is_conforming}
use Rattle.swap_job.specs.Step.{IsJobEvent}
use Rattle.swap_job.specs.declared.job.Purpose.{Purpose}
use Rattle.swap_job.specs.declared.job.Job.{Job}
use Rattle.swap_job.specs.declared.event.Event.{Event}
use Rattle.command_input.specs.declared.reason.Reason.{Reason}
use Rattle.command_input.specs.declared.reason.Reason.TheVariants.{NotJson, OverLimit}
use Rattle.offer_header.specs.Raw.{is_plain}
use Rattle.offer_header.specs.Header.{parse_whole_header}
use Rattle.offer_header.specs.Limits.{HoldsEach}
use Rattle.offer_header.specs.Names.{AreNames}
use Rattle.offer_events.specs.Event.{needs_seeds, parse_event}
use Rattle.command_input.specs.Lines.{collect_lines, filled_lines}
use Rattle.offer_header.specs.declared.header.Header.{Header}
use Rattle.swap_offer.specs.Checks.{IsAcceptedOrProposed, admitted, assemble_job}
use Rattle.swap_offer.specs.Wallets.{AreSimpleRoles, HaveRequiredScripts, HaveRequiredSeeds, HaveRequiredWallets, IsUntoldJob, seeded, walleted}

-- a job has the seeds that it needs
unfoldable pub provided : Job → Result (Unit {0}) Reason
provided job = do
  u ← seeded job
  walleted job

-- the job of a header, or the first reason against it: its digraph, its leaders and times, and the
-- seeds of its conforming parties
unfoldable pub accepted_entries : Header → Result Job Reason
accepted_entries h = do
  g ← admitted h
  u ← provided (assemble_job h g)
  Ok (assemble_job h g)

-- the job of a header line; `has` tells which strategies exist
unfoldable pub parse_header_job : (List ℕ → Bool) → Purpose → ℕ → List ℕ → Result Job Reason
parse_header_job has purpose line text = do
  h ← parse_whole_header has purpose line text
  accepted_entries h

abbrev pub names_or_none : Result Header Reason → List (List ℕ)
names_or_none (Ok h) = h.names
names_or_none (Err reason) = []

-- the names of the parties in a header line; none where it has no header within its limits
unfoldable pub header_names : (List ℕ → Bool) → Purpose → ℕ → List ℕ → List (List ℕ)
header_names has purpose line text = names_or_none (parse_whole_header has purpose line text)

-- the names of the parties that an offer's lines speak of
abbrev pub offer_line_names : (List ℕ → Bool) → Purpose → List (ℕ × List ℕ) → List (List ℕ)
offer_line_names has purpose [] = []
offer_line_names has purpose (l ∷ ls) = header_names has purpose l.0 l.1

-- the event of a line, given the number of events before it
unfoldable pub limited_event : Job → ℕ → ℕ → List ℕ → Result Event Reason
limited_event job count line text = if count == 200000 then Err (OverLimit line (codes "events") 200001) else parse_event job line text

-- the events of lines, given the number of events before them
unfoldable pub parse_events : Job → ℕ → List (ℕ × List ℕ) → Result (List Event) Reason
parse_events job count [] = Ok []
parse_events job count (l ∷ ls) = limited_event job count l.0 l.1 >>= λ e. parse_events job (count + 1) ls >>= λ es. Ok (e ∷ es)

-- how many lines there are with one more, given how many came before it; its text isn't examined
unfoldable pub counted : ℕ → ℕ × List ℕ → Result ℕ Reason
counted count l = if count == 200000 then Err (OverLimit l.0 (codes "events") 200001) else Ok (count + 1)

abbrev pub events_unless : (plain : Bool) → Job → List (ℕ × List ℕ) → Result (List Event) Reason
events_unless true job ls = steps counted 0 ls >>= λ count. Ok []
events_unless false job ls = parse_events job 0 ls

-- the events of the further lines; those of a plain job are counted, and no event is read
abbrev pub parse_job_events : Purpose → Job → List (ℕ × List ℕ) → Result (List Event) Reason
parse_job_events purpose job ls = events_unless (is_plain purpose) job ls

abbrev pub job_of_lines : (List ℕ → Bool) → Purpose → List (ℕ × List ℕ) → Result (Job × List Event) Reason
job_of_lines has purpose [] = Err (NotJson 1)
job_of_lines has purpose (l ∷ ls) = parse_header_job has purpose l.0 l.1 >>= λ job. parse_job_events purpose job ls >>= λ events. Ok (job, events)

-- the names of the parties that an offer's bytes speak of
abbrev pub names_of_offer : (List ℕ → Bool) → Purpose → List ℕ → List (List ℕ)
names_of_offer has purpose bytes = offer_line_names has purpose (filled_lines 1 (collect_lines bytes))

-- the job and the events of an offer's bytes
unfoldable pub parse_job : (List ℕ → Bool) → Purpose → List ℕ → Result (Job × List Event) Reason
parse_job has purpose bytes = job_of_lines has purpose (filled_lines 1 (collect_lines bytes))

-- A job whose deal is well sized, with a name, a role and perhaps a seed per party.
pub record IsWholeJob (job : Job) : Type 0 where
  pub sized : IsWellSized job.deal
  pub names : length job.names ≡ job.deal.graph.n
  pub conforming : length job.conforming ≡ job.deal.graph.n
  pub roles : length job.roles ≡ job.deal.graph.n
  pub acting : job.conforming ≡ map is_conforming job.roles
  pub seeds : length job.seeds ≡ job.deal.graph.n

-- A job and its events, as an offer gives them for a purpose; `has` tells which strategies exist.
pub record IsReadJob (has : List ℕ → Bool) (asked : Purpose) (job : Job) (events : List Event) : Type 0 where
  pub whole : IsWholeJob job
  pub accepted : IsAcceptedOrProposed asked job.deal
  pub known : AreNames job.names
  pub purpose : job.purpose ≡ asked
  pub wallets : HaveRequiredWallets asked job
  pub seeds : HaveRequiredSeeds asked job
  pub roles : AreSimpleRoles asked job
  pub strategies : HoldsEach has job.roles
  pub scripts : HaveRequiredScripts asked job
  pub untold : IsUntoldJob asked job
  pub fit : needs_seeds asked ≡ true → All (IsJobEvent job) events
