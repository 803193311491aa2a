-- A job with its book, as it is read.
use Rattle.std.specs.Prelude.{Result, Ok, Err}
use Rattle.ledger_core.specs.Book.{Histories}
use Rattle.swap_job.specs.declared.job.Job.{Job}
use Rattle.command_input.specs.declared.refusal.Refusal.{Refusal}
use Rattle.transcript_book.specs.Stages.{BookSoFar}

-- the job and the book of what was read
abbrev pub told_so_far : Result BookSoFar Refusal → Result (Job × Histories) Refusal
told_so_far (Ok s) = Ok (s.job, s.book)
told_so_far (Err r) = Err r
