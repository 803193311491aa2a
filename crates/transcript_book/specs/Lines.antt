-- The lines of a transcript, and its text.
use Rattle.std.specs.Prelude.{◌≡◌, ◌<◌, ◌≤◌, ◌+◌, ◌++◌, ◌∷◌, [], ℕ, List, Option, Some, map, length, codes, decimal, All}
use Rattle.swap_digraph.specs.declared.deal.Deal.{Deal}
use Rattle.escrow_core.specs.declared.reply.Reply.{Reply}
use Rattle.escrow_core.specs.declared.reply.Reply.TheVariants.{Accepted}
use Rattle.ledger_core.specs.declared.entry.What.{What}
use Rattle.ledger_core.specs.declared.entry.What.TheVariants.{Call as Made, Tick}
use Rattle.ledger_core.specs.declared.entry.Entry.{Entry}
use Rattle.ledger_core.specs.Book.{Histories, history}
use Rattle.swap_job.specs.declared.job.Job.{Job}
use Rattle.ledger_core.specs.WellFormed.{IsWellFormed}
use Rattle.offer_text.specs.HeaderLine.{header_line}
use Rattle.transcript_book.specs.Between.{spaced, fed_lines}
use Rattle.typed_books.specs.Typed.{IsTypedSender, IsTypedWhat, IsTypedReply}
use Rattle.transcript_book.specs.Words.{entry_words}

-- the line of an entry; heights aren't written
abbrev pub entry_line : Entry → List ℕ
entry_line e = spaced (entry_words e.sender e.what e.reply)

-- the line before the entries of arc a, with their number
abbrev pub ledger_line : ℕ → List Entry → List ℕ
ledger_line a h = spaced (codes "ledger" ∷ decimal a ∷ decimal (length h) ∷ [])

abbrev pub ledger_lines : ℕ → List Entry → List (List ℕ)
ledger_lines a h = ledger_line a h ∷ map entry_line h

-- the lines of the ledgers from arc a on, and the last line
abbrev pub lines_from_arc : ℕ → Histories → List (List ℕ)
lines_from_arc a [] = codes "end" ∷ []
lines_from_arc a (h ∷ b) = ledger_lines a h ++ lines_from_arc (a + 1) b

-- the lines of a transcript with this header line
abbrev pub transcript_lines : List ℕ → Histories → List (List ℕ)
transcript_lines header b = codes "swap transcript 1" ∷ header ∷ lines_from_arc 0 b

-- the transcript of a job's book
unfoldable pub transcript : Job → Histories → List ℕ
transcript job b = fed_lines (transcript_lines (header_line job) b)

-- ---- what a transcript can state

-- every tick was accepted
abbrev pub IsStatedWhat : What → Reply → Type 0
IsStatedWhat (Made c) reply = Unit {0}
IsStatedWhat (Tick k) reply = reply ≡ Accepted

pub record IsStatable (e : Entry) : Type 0 where
  pub sender : IsTypedSender e.sender
  pub what : IsTypedWhat e.what
  pub reply : IsTypedReply e.reply
  pub tick : IsStatedWhat e.what e.reply

-- A book that a transcript can state of a deal: it is well formed, its ticks were accepted, and its
-- histories aren't too long.
pub record IsStated (d : Deal) (b : Histories) : Type 0 where
  pub formed : IsWellFormed d b
  pub statable : (a : ℕ) → a < length b → All IsStatable (history b a)
  pub few : (a : ℕ) → a < length b → length (history b a) ≤ 20064

-- The lines are a whole transcript of the job and the book, where parse_whole_header says which job
-- a header line gives, if any. A header line counts by what it reads as; every other line has one
-- spelling.
pub record IsWholeTranscript (parse_whole_header : List ℕ → Option Job) (ls : List (List ℕ)) (job : Job) (b : Histories) : Type 0 where
  pub header : List ℕ
  pub gives : parse_whole_header header ≡ Some job
  pub lines : ls ≡ transcript_lines header b
  pub stated : IsStated job.deal b
