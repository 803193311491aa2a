-- What is written of a plain job: the header line of the job that is made of it, and the further
-- lines as they are.
use Rattle.std.specs.Prelude.{ℕ, Bool, ◌<◌, ◌++◌, List, ◌∷◌, [], codes, drop, fold, Result, Ok}
use Rattle.swap_base.specs.Fault.{◌>>=◌, steps}
use Rattle.swap_base.specs.Text.{joined}
use Rattle.swap_rules.specs.Accepted.{IsAccepted}
use Rattle.swap_job.specs.declared.event.Event.{Event}
use Rattle.swap_job.specs.declared.job.Job.{Job}
use Rattle.swap_job.specs.declared.job.Purpose.TheVariants.{Make}
use Rattle.command_input.specs.declared.reason.Reason.{Reason}
use Rattle.command_input.specs.Lines.{collect_lines, filled_lines}
use Rattle.swap_offer.specs.Job.{counted, job_of_lines}
use Rattle.swap_gen.specs.Made.{made}
use Rattle.swap_gen.specs.Owned.{OwnsKeys}
use Rattle.offer_text.specs.HeaderLine.{header_line}

-- a job's header line, with a line feed
unfoldable pub written_line : Job → List ℕ
written_line job = joined (header_line job ∷ codes "\n" ∷ [])

-- a text with one more line after it, byte for byte, and a line feed
abbrev pub with_copied_line : List ℕ → ℕ × List ℕ → List ℕ
with_copied_line text l = text ++ joined (l.1 ∷ codes "\n" ∷ [])

-- what is written of a plain job and the further lines of its input
unfoldable pub made_text : Job → List (ℕ × List ℕ) → List ℕ
made_text job further = fold with_copied_line (written_line (made job)) further

abbrev pub made_job_text : List (ℕ × List ℕ) → Result (Job × List Event) Reason → Result (List ℕ) Reason
made_job_text lines read = read >>= λ j. Ok (made_text j.0 (drop 1 lines))

-- what is written of an input's lines that aren't blank, or the first reason why they are refused
abbrev pub made_lines_output : (List ℕ → Bool) → List (ℕ × List ℕ) → Result (List ℕ) Reason
made_lines_output has lines = made_job_text lines (job_of_lines has Make lines)

-- what is written of an input's bytes, or the first reason why they are refused
unfoldable pub made_output : (List ℕ → Bool) → List ℕ → Result (List ℕ) Reason
made_output has input = made_lines_output has (filled_lines 1 (collect_lines input))

-- How many further lines were written, and the text so far: after one more line, or the reason
-- against it.
unfoldable pub line_step : ℕ × List ℕ → ℕ × List ℕ → Result (ℕ × List ℕ) Reason
line_step s l = do
  n ← counted s.0 l
  Ok (n, with_copied_line s.1 l)

-- a text with further lines after it, given how many stand before them, or the reason against one
-- of them
unfoldable pub copied : ℕ → List ℕ → List (ℕ × List ℕ) → Result (List ℕ) Reason
copied count text ls = do
  s ← steps line_step (count, text) ls
  Ok s.1

-- a text with one further line after it, given the line's number and how many lines stand before
-- it, or the reason against the line
unfoldable pub next_made_line : ℕ → List ℕ → ℕ → List ℕ → Result (List ℕ) Reason
next_made_line count text number line = do
  s ← line_step (count, text) (number, line)
  Ok s.1

-- What is promised of the job that is made of a plain one.
pub record IsMade (job : Job) : Type 0 where
  pub accepted : IsAccepted (made job).deal
  -- each party's seed gives it what the deal states of it
  pub owned : (p : ℕ) → p < (made job).deal.graph.n → OwnsKeys (made job) p
