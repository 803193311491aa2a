-- The lines after the header line are read as a book exactly where they are the lines of that book.
use Rattle.std.specs.Prelude.{◌≡◌, List, [], ℕ, Ok}
use Rattle.swap_base.specs.Fault.{steps}
use Rattle.swap_digraph.specs.Deal.{IsWellSized}
use Rattle.ledger_core.specs.Book.{Histories}
use Rattle.swap_job.specs.declared.job.Job.{Job}
use Rattle.transcript_book.specs.Lines.{IsStated, lines_from_arc}
use Rattle.transcript_book.specs.declared.place.Place.TheVariants.{Over}
use Rattle.transcript_book.specs.Stages.{BookSoFar, line_read, no_ledgers}

-- all is read, up to the last line
abbrev pub whole : Job → Histories → BookSoFar
whole job b = record { job = job; book = b; entries = []; more = 0; place = Over }

-- what is read of lines that end with the last line of a transcript
pub record IsWholeBook (job : Job) (ls : List (List ℕ)) (t : BookSoFar) : Type 0 where
  pub read : t ≡ whole job t.book
  pub lines : ls ≡ lines_from_arc 0 t.book
  pub stated : IsStated job.deal t.book

abbrev pub ReadIsWhole : Type 0
ReadIsWhole =
    (job : Job) (ls : List (List ℕ)) (t : BookSoFar) → steps line_read (no_ledgers job) ls ≡ Ok t → t.place ≡ Over → IsWholeBook job ls t

abbrev pub WholeIsRead : Type 0
WholeIsRead = (job : Job) (b : Histories) → IsWellSized job.deal → IsStated job.deal b → steps line_read (no_ledgers job) (lines_from_arc 0 b) ≡ Ok (whole job b)
