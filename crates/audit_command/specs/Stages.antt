-- Which line of a transcript stands next, and what it makes of what was read.
use Rattle.std.specs.Prelude.{◌+◌, ◌-◌, ◌^◌, ℕ, List, length, codes, min, Result, Ok, Err, if◌then◌else◌}
use Rattle.std.specs.Str.{bytes_eq}
use Rattle.swap_job.specs.declared.job.Job.{Job}
use Rattle.command_input.specs.declared.refusal.Refusal.{Refusal}
use Rattle.transcript_book.specs.declared.said.Misspelling.{Misspelling}
use Rattle.transcript_book.specs.Stages.{BookSoFar, line_read, no_ledgers}
use Rattle.audit_command.specs.declared.reason.TranscriptReason.TheVariants.{BadLine, Header as BadHeader}
use Rattle.audit_command.specs.declared.stage.Stage.{Stage}
use Rattle.audit_command.specs.declared.stage.Stage.TheVariants.{First, Header, Ledgers, Bad}

-- the job of a header line, or the reason against it
abbrev pub headed_stage : Result Job Refusal → Stage
headed_stage (Ok job) = Ledgers (no_ledgers job)
headed_stage (Err refusal) = Bad (BadHeader refusal)

abbrev pub ledgers_stage : ℕ → Result BookSoFar Misspelling → Stage
ledgers_stage n (Ok s) = Ledgers s
ledgers_stage n (Err e) = Bad (BadLine n)

-- what the line of number n makes of a stage, where header says what a header line gives; the first
-- bad line stands
unfoldable pub next_stage : (List ℕ → Result Job Refusal) → ℕ → Stage → List ℕ → Stage
next_stage header n First line = if bytes_eq line (codes "swap transcript 1") then Header else Bad (BadLine n)
next_stage header n Header line = headed_stage (header line)
next_stage header n (Ledgers s) line = ledgers_stage n (line_read s line)
next_stage header n (Bad reason) line = Bad reason

-- What was read.
pub record Progress : Type 0 where
  pub stage : Stage
  -- how many lines, held at the greatest number of 32 bits
  pub lines : ℕ
  -- how many bytes they have with their line feeds, held at the greatest number of 64 bits
  pub bytes : ℕ

abbrev pub no_lines : Progress
no_lines = record { stage = First; lines = 0; bytes = 0 }

abbrev pub next_line_number : ℕ → ℕ
next_line_number n = min (n + 1) (2 ^ 32 - 1)

abbrev pub more_bytes : ℕ → ℕ → ℕ
more_bytes n k = min (n + k) (2 ^ 64 - 1)

-- with one more line, which a line feed ended
abbrev pub with_line : (List ℕ → Result Job Refusal) → Progress → List ℕ → Progress
with_line header s line = record {
  stage = next_stage header (next_line_number s.lines) s.stage line;
  lines = next_line_number s.lines;
  bytes = more_bytes s.bytes (length line + 1);
}
