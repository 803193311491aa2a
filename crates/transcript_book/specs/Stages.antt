-- How far the lines after the header line were read, and what the next one makes of it.
use Rattle.std.specs.Prelude.{◌≡◌, ◌==◌, ◌-◌, ◌++◌, ◌∷◌, [], ℕ, Bool, true, false, nat_lt, List, length, codes, Result, Ok, Err, if◌then◌else◌}
use Rattle.std.specs.Str.{bytes_eq}
use Rattle.swap_base.specs.Fault.{◌>>=◌, Fails}
use Rattle.swap_base.specs.declared.fault.Fault.{Fault}
use Rattle.ledger_core.specs.declared.entry.Entry.{Entry}
use Rattle.ledger_core.specs.Book.{Histories}
use Rattle.swap_job.specs.declared.job.Job.{Job}
use Rattle.transcript_book.specs.declared.said.Misspelling.{Misspelling}
use Rattle.transcript_book.specs.Reading.{misspelt}
use Rattle.transcript_book.specs.Counts.{parse_limited_count}
use Rattle.transcript_book.specs.declared.place.Place.{Place}
use Rattle.transcript_book.specs.declared.place.Place.TheVariants.{Ledger, Entries, Over}
use Rattle.transcript_book.specs.Entries.{parse_next_entry}

pub record BookSoFar : Type 0 where
  pub job : Job
  -- the histories that were read whole
  pub book : Histories
  -- the entries of the next ledger that were read
  pub entries : List Entry
  -- how many of them are to come
  pub more : ℕ
  -- which line stands next
  pub place : Place

abbrev pub no_ledgers : Job → BookSoFar
no_ledgers job = record { job = job; book = []; entries = []; more = 0; place = Ledger }

-- a ledger was read whole where no entry of it is to come
abbrev pub with_whole : Bool → BookSoFar → BookSoFar
with_whole true s = record { job = s.job; book = s.book ++ s.entries ∷ []; entries = []; more = 0; place = Ledger }
with_whole false s = s

abbrev pub with_ledger_if_whole : BookSoFar → BookSoFar
with_ledger_if_whole s = with_whole (s.more == 0) s

-- the next ledger, with a number of entries
abbrev pub with_next_ledger : BookSoFar → ℕ → BookSoFar
with_next_ledger s count = with_ledger_if_whole (record { job = s.job; book = s.book; entries = []; more = count; place = Entries })

-- one more entry of the ledger
abbrev pub with_next_entry : BookSoFar → Entry → BookSoFar
with_next_entry s e = with_ledger_if_whole (record { job = s.job; book = s.book; entries = s.entries ++ e ∷ []; more = s.more - 1; place = Entries })

-- the last line
abbrev pub end_line_read : BookSoFar → List ℕ → Result BookSoFar Misspelling
end_line_read s line =
    if bytes_eq line (codes "end") then Ok (record { job = s.job; book = s.book; entries = s.entries; more = s.more; place = Over })
    else misspelt

-- the line of the next ledger, or the last one where no ledger is to come
unfoldable pub ledger_read : BookSoFar → List ℕ → Result BookSoFar Misspelling
ledger_read s line =
    if nat_lt (length s.book) (length s.job.deal.graph.arcs) then (parse_limited_count (length s.book) line >>= λ n. Ok (with_next_ledger s n)) else end_line_read s line

-- the line of an entry
unfoldable pub entry_read : BookSoFar → List ℕ → Result BookSoFar Misspelling
entry_read s line = parse_next_entry s.job.deal (length s.book) s.entries line >>= λ e. Ok (with_next_entry s e)

abbrev pub line_read_at_place : Place → BookSoFar → List ℕ → Result BookSoFar Misspelling
line_read_at_place Ledger s line = ledger_read s line
line_read_at_place Entries s line = entry_read s line
line_read_at_place Over s line = misspelt

-- what the next line makes of it; after the last line each line is bad
abbrev pub line_read : BookSoFar → List ℕ → Result BookSoFar Misspelling
line_read s line = line_read_at_place s.place s line

abbrev pub is_finished : Place → Bool
is_finished Over = true
is_finished _ = false

-- A call that reads a line answers so: after a line that isn't bad all is as it is read, and after
-- any other answer as it was.
abbrev pub Reads : {T : Type 0} → Result T (Fault Misspelling) → BookSoFar → BookSoFar → Result BookSoFar Misspelling → Type 0
Reads (Ok x) old new read = read ≡ Ok new
Reads (Err e) old new read = Fails e read × (new ≡ old)
