-- The lines of the ledgers, as a transcript has them, up to its last line.
use Rattle.std.specs.Prelude.{ℕ, List, [], ◌∷◌, Result, Ok, Err, if◌then◌else◌}
use Rattle.swap_base.specs.Fault.{◌>>=◌}
use Rattle.swap_job.specs.declared.job.Job.{Job}
use Rattle.command_input.specs.declared.reason.Reason.TheVariants.{CutShort}
use Rattle.command_input.specs.declared.refusal.Refusal.{Refusal}
use Rattle.transcript_book.specs.Stages.{BookSoFar, is_finished, line_read, no_ledgers}
use Rattle.party_rows.specs.Lines.{following_line_number, nameless, or_bad_line}

-- what was read, where the last line was read
abbrev pub if_finished : BookSoFar → Result BookSoFar Refusal
if_finished s = if is_finished s.place then Ok s else Err (nameless CutShort)

-- what further lines make of what was read, where the first of them has that number
abbrev pub further_lines_read : ℕ → BookSoFar → List (List ℕ) → Result BookSoFar Refusal
further_lines_read n s [] = if_finished s
further_lines_read n s (l ∷ ls) = or_bad_line n (line_read s l) >>= λ t. further_lines_read (following_line_number n) t ls

-- the ledgers of a job that lines tell, of which the first has that number
unfoldable pub ledgers_read : Job → ℕ → List (List ℕ) → Result BookSoFar Refusal
ledgers_read job first ls = further_lines_read first (no_ledgers job) ls
