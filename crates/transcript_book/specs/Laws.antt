-- The law of transcripts.
use Rattle.std.specs.Prelude.{◌≡◌, ℕ, List, Option}
use Rattle.ledger_core.specs.Book.{Histories}
use Rattle.swap_job.specs.declared.job.Job.{Job}
use Rattle.transcript_book.specs.Lines.{IsWholeTranscript}

-- A whole transcript has one job and one book, whatever header lines give.
abbrev pub OneStory : Type 0
OneStory =
    (parse_whole_header : List ℕ → Option Job) (ls : List (List ℕ)) (job other : Job) (b c : Histories) → IsWholeTranscript parse_whole_header ls job b
    → IsWholeTranscript parse_whole_header ls other c → (job ≡ other) × (b ≡ c)
