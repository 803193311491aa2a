-- What is told without noise fits into an input.
use Rattle.std.specs.Prelude.{◌≤◌, Bool, true, false, List, count_by, length}
use Rattle.std.specs.List.{AllByRecursion}
use Rattle.ledger_core.specs.declared.entry.Call.{Call}
use Rattle.ledger_core.specs.declared.entry.Call.TheVariants.{Publish, Unlock}
use Rattle.ledger_core.specs.declared.entry.What.{What}
use Rattle.ledger_core.specs.declared.entry.What.TheVariants.{Call as Made, Tick}
use Rattle.ledger_core.specs.declared.entry.Entry.{Entry}
use Rattle.ledger_core.specs.Book.{Histories}
use Rattle.transcript_book.specs.Between.{fed_lines}
use Rattle.transcript_book.specs.Lines.{lines_from_arc}
use Rattle.program_laws.specs.Written.{IsWritableEntry}

-- what a publish or an unlock of a deal states is as long as it may be
abbrev pub IsShortCall : Call → Type 0
IsShortCall (Publish t) = length t.locks ≤ 8
IsShortCall (Unlock key) = (length key.path ≤ 32) × (length key.sigs ≤ 32)
IsShortCall _ = Unit {0}

abbrev pub IsShortWhat : What → Type 0
IsShortWhat (Made c) = IsShortCall c
IsShortWhat (Tick k) = Unit {0}

-- An entry of a deal, whose line a program can write.
pub record IsShortEntry (e : Entry) : Type 0 where
  pub written : IsWritableEntry e
  pub short : IsShortWhat e.what

abbrev pub is_unlocking : What → Bool
is_unlocking (Made (Unlock key)) = true
is_unlocking _ = false

-- A history that is told briefly: at most 85 entries, which is as many as are told of a ledger with
-- its ticks told as one, and at most 8 unlocks, one for each lock.
pub record IsBrief (h : List Entry) : Type 0 where
  pub entries : AllByRecursion IsShortEntry h
  pub few : length h ≤ 85
  pub unlocks : count_by (λ e. is_unlocking e.what) h ≤ 8

-- the lines of at most 128 ledgers that are told briefly have so few bytes, with their line feeds
abbrev pub BriefIsBounded : Type 0
BriefIsBounded = (k : Histories) → length k ≤ 128 → AllByRecursion IsBrief k → length (fed_lines (lines_from_arc 0 k)) ≤ 147700000
