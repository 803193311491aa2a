-- The text of a made job is read back as that job, with the lines behind its header.
use Rattle.std.specs.Prelude.{◌≡◌, ◌≤◌, ◌==◌, ◌+◌, not, ℕ, Bool, true, false, List, [], ◌∷◌, drop, map, All, Option, Some, Result, Ok}
use Rattle.std.specs.Str.{is_utf8, IsUtf8}
use Rattle.std.specs.List.{list_all}
use Rattle.serde_json.specs.Read.{read}
use Rattle.swap_base.specs.Fault.{◌>>=◌}
use Rattle.swap_job.specs.declared.event.Event.{Event}
use Rattle.swap_job.specs.declared.job.Job.{Job}
use Rattle.swap_job.specs.declared.job.Purpose.{Purpose}
use Rattle.swap_job.specs.declared.job.Purpose.TheVariants.{Check, Run, Race, Make}
use Rattle.swap_run.specs.Program.{program_names}
use Rattle.offer_header.specs.Names.{has_strategy}
use Rattle.command_input.specs.declared.reason.Reason.{Reason}
use Rattle.offer_text.specs.HeaderLine.{header_line, made_header}
use Rattle.swap_run.specs.Asked.{with_answers, Answers}
use Rattle.swap_run.specs.Fair.{finish}
use Rattle.swap_run.specs.Run.{run, Cast}
use Rattle.swap_world.specs.Cast.{job_cast}
use Rattle.command_input.specs.Lines.{filled_lines, collect_lines}
use Rattle.swap_offer.specs.Job.{parse_events, parse_header_job, parse_job}
use Rattle.swap_gen.specs.Drawn.{plain_job}
use Rattle.swap_gen.specs.Events.{generated_events}
use Rattle.swap_gen.specs.Made.{made}
use Rattle.made_jobs.specs.Generating.{generated_book, generated_text}
use Rattle.made_jobs.specs.Making.{made_output}
use Rattle.ledger_core.specs.Book.{Histories}
use Rattle.swap_digraph.specs.Deal.{IsWellSized}
use Rattle.transcript_book.specs.Between.{fed_lines}
use Rattle.transcript_book.specs.Lines.{IsWholeTranscript}

-- ---- what is read

-- a check, a run and a race read a job with the seeds of its parties and all that its deal states
abbrev pub reads_jobs : Purpose → Bool
reads_jobs Check = true
reads_jobs Run = true
reads_jobs Race = true
reads_jobs _ = false

-- the job that is made of a plain one, as it is read for a purpose: deal, names, roles, seeds and
-- finish are those of the made job
abbrev pub told_job : Purpose → Job → Job
told_job purpose plain = record (made plain) { purpose = purpose }

-- each name of a strategy that the program has is a text
abbrev pub HasTexts : (List ℕ → Bool) → Type 0
HasTexts has = (name : List ℕ) → has name ≡ true → IsUtf8 name

-- The names of the program's strategies are texts.
abbrev pub ProgramHasTexts : Type 0
ProgramHasTexts = HasTexts (has_strategy program_names)

-- ---- lines

-- no line feed
abbrev pub IsOneLine : List ℕ → Type 0
IsOneLine l = list_all (λ x. not (x == 10)) l ≡ true

-- lines with their numbers, from n on
abbrev pub numbered_lines : ℕ → List (List ℕ) → List (ℕ × List ℕ)
numbered_lines n [] = []
numbered_lines n (l ∷ ls) = (n, l) ∷ numbered_lines (n + 1) ls

-- the lines of an input after its header, without those that are blank
abbrev pub further_lines : List ℕ → List (List ℕ)
further_lines input = map (λ l. l.1) (drop 1 (filled_lines 1 (collect_lines input)))

-- ---- the laws

-- Lines without line feeds that make the same text are the same lines.
abbrev pub TextHasOneStory : Type 0
TextHasOneStory = (ls ms : List (List ℕ)) → All IsOneLine ls → All IsOneLine ms → fed_lines ls ≡ fed_lines ms → ls ≡ ms

-- They are the lines of that text.
abbrev pub TextIsItsLines : Type 0
TextIsItsLines = (ls : List (List ℕ)) → All IsOneLine ls → collect_lines (fed_lines ls) ≡ ls

-- Two whole transcripts with the same text, byte for byte, tell of one job and one book. Neither
-- header line holds a line feed.
abbrev pub WholeTextHasOneStory : Type 0
WholeTextHasOneStory =
    (parse_whole_header : List ℕ → Option Job) (ls ms : List (List ℕ)) (job other : Job) (b c : Histories) (w : IsWholeTranscript parse_whole_header ls job b)
    (v : IsWholeTranscript parse_whole_header ms other c) → IsWellSized job.deal → IsWellSized other.deal → IsOneLine w.header → IsOneLine v.header
    → fed_lines ls ≡ fed_lines ms
    → (job ≡ other) × (b ≡ c)

-- The header line of a job that is made of a plain one is text, and is read as the header that is
-- written.
abbrev pub MadeHeaderReads : Type 0
MadeHeaderReads =
    (has : List ℕ → Bool) (line : ℕ) (text : List ℕ) (plain : Job) → HasTexts has → parse_header_job has Make line text ≡ Ok plain
    → (is_utf8 (header_line (made plain)) ≡ true) × (read (header_line (made plain)) ≡ Some (made_header (made plain)))

-- It holds no line feed.
abbrev pub MadeHeaderIsOneLine : Type 0
MadeHeaderIsOneLine =
    (has : List ℕ → Bool) (line : ℕ) (text : List ℕ) (plain : Job) → HasTexts has → parse_header_job has Make line text ≡ Ok plain
    → IsOneLine (header_line (made plain))

-- Whatever text reads as that header gives the job that was made, for a check, a run and a race.
abbrev pub MadeTextIsReadBack : Type 0
MadeTextIsReadBack =
    (has : List ℕ → Bool) (line : ℕ) (text : List ℕ) (plain : Job) → HasTexts has → parse_header_job has Make line text ≡ Ok plain
    → (purpose : Purpose) → reads_jobs purpose ≡ true → (number : ℕ) (again : List ℕ) → is_utf8 again ≡ true
    → read again ≡ Some (made_header (made plain)) → parse_header_job has purpose number again ≡ Ok (told_job purpose plain)

-- The header line of a job that was made gives that job.
abbrev pub MadeHeaderIsReadBack : Type 0
MadeHeaderIsReadBack =
    (has : List ℕ → Bool) (line : ℕ) (text : List ℕ) (plain : Job) → HasTexts has → parse_header_job has Make line text ≡ Ok plain
    → (purpose : Purpose) → reads_jobs purpose ≡ true → (number : ℕ) → parse_header_job has purpose number (header_line (made plain)) ≡ Ok (told_job purpose plain)

-- a job with its events, or the first reason against one of them
abbrev pub with_job : Job → Result (List Event) Reason → Result (Job × List Event) Reason
with_job job read = read >>= λ events. Ok (job, events)

-- An input is a plain job. The text that is written of it is read as the made job with the events
-- of the further lines as they stood, or is refused for the first reason against one of these
-- lines.
pub record IsReadBack (has : List ℕ → Bool) (purpose : Purpose) (input output : List ℕ) : Type 0 where
  pub plain : Job
  pub is_plain : parse_job has Make input ≡ Ok (plain, [])
  pub is_made : parse_job has purpose output
      ≡ with_job (told_job purpose plain) (parse_events (told_job purpose plain) 0 (numbered_lines 2 (further_lines input)))

-- What `make` writes is read as the job that it made.
abbrev pub MadeOutputIsReadBack : Type 0
MadeOutputIsReadBack =
    (has : List ℕ → Bool) (input output : List ℕ) → HasTexts has → made_output has input ≡ Ok output → (purpose : Purpose) → reads_jobs purpose ≡ true
    → IsReadBack has purpose input output

-- events stand in a job for a check and a run alone: for a race there are none
abbrev pub HasAllowedEvents : Purpose → ℕ → Type 0
HasAllowedEvents Race events = events ≡ 0
HasAllowedEvents _ events = Unit {0}

-- What `gen` writes of a number, with at most 200,000 events, is read as the number's job with the
-- number's events.
abbrev pub GeneratedTextIsReadBack : Type 0
GeneratedTextIsReadBack =
    (has : List ℕ → Bool) (seed parties events : ℕ) → 2 ≤ parties → parties ≤ 24 → events ≤ 200000 → (purpose : Purpose) → reads_jobs purpose ≡ true
    → HasAllowedEvents purpose events
    → parse_job has purpose (generated_text seed parties events) ≡ Ok (told_job purpose (plain_job seed parties), generated_events seed parties events)

-- Its run, with the fair finish that the job asks for, is the one that the number's summary sums
-- up. No strategy is asked.
abbrev pub GeneratedRunIsSummed : Type 0
GeneratedRunIsSummed =
    (answers : Answers) (seed parties events : ℕ)
    → let cast : Cast = with_answers (job_cast (told_job Run (plain_job seed parties))) answers in
    (finish cast (run cast (generated_events seed parties events))).book ≡ generated_book seed parties events
