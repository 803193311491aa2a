-- A seat at the lock of a ledger, in words of the ledger's entries.
use Rattle.std.specs.Prelude.{◌≡◌, ℕ, Bool, true, false, List, ◌++◌}
use Rattle.std.specs.List.{AllByRecursion}
use mathlib.Core.List.{IsPrefix}
use Rattle.atomic_table.specs.Seated.{TableId}
use Rattle.turn_lock.specs.Turns.{Sat, idle, busy, key_opening, seat_number, known_key}
use Rattle.swap_digraph.specs.declared.deal.Deal.{Deal}
use Rattle.ledger_core.specs.declared.entry.Entry.{Entry}
use Rattle.ledger_core.specs.Value.{LedgerState}
use Rattle.ledger_shared.specs.declared.shelf.Line.{Line}
use Rattle.ledger_shared.specs.declared.shelf.Shelf.{Shelf}
use Rattle.ledger_shared.specs.declared.seat.LedgerSeat.TheInside.{Inside}
use Rattle.ledger_shared.specs.Lines.{entry_lines, line_entries, head_deal, head_arc, sender_side, side_entries}

pub record SeatState : Type 0 where
  pub lock : TableId
  pub deal : Deal
  pub arc : ℕ
  pub number : ℕ
  -- whether it has the turn
  pub holds : Bool
  -- the history that was shared
  pub shared : List Entry
  -- the history that it knows
  pub known : List Entry

abbrev pub table_seat_state : TableId → Sat Shelf Line → SeatState
table_seat_state lock m =
    record {
      lock = lock;
      deal = head_deal (key_opening m);
      arc = head_arc (key_opening m);
      number = seat_number m;
      holds = m.0.holds;
      shared = line_entries (key_opening m);
      known = line_entries (known_key m);
    }

abbrev pub inside_seat : Inside → SeatState
inside_seat s = table_seat_state s.seat.table_id s.seat.me

-- what a seat is, with the turn or without
abbrev pub busy_or_idle : Bool → List Line → ℕ → List Line → Sat Shelf Line
busy_or_idle true o k h = busy o k h
busy_or_idle false o k h = idle o k h

-- What it knows are lines on the same deal and arc.
abbrev pub HasSeatLines : SeatState → Sat Shelf Line → Type 0
HasSeatLines s m = m ≡ busy_or_idle s.holds (entry_lines s.deal s.arc s.shared) s.number (entry_lines s.deal s.arc s.known)

abbrev pub KnowsLines : Inside → Type 0
KnowsLines s = HasSeatLines (inside_seat s) s.seat.me

-- the seat after it learned the history h, with the turn or without
abbrev pub knowing : SeatState → Bool → List Entry → SeatState
knowing s b h = record { lock = s.lock; deal = s.deal; arc = s.arc; number = s.number; holds = b; shared = s.shared; known = h }

-- a seat of a ledger that was shared now
abbrev pub new_seat : TableId → LedgerState → ℕ → SeatState
new_seat lock l k = record { lock = lock; deal = l.deal; arc = l.arc; number = k; holds = false; shared = l.history; known = l.history }

-- The ledger is that of the seat, its history goes on from what the seat knows, and has no further
-- entry of its side.
pub record ContinuesSeat (s : SeatState) (l : LedgerState) : Type 0 where
  pub deal : l.deal ≡ s.deal
  pub arc : l.arc ≡ s.arc
  pub longer : IsPrefix s.known l.history
  pub own : side_entries s.deal s.arc s.number l.history ≡ side_entries s.deal s.arc s.number s.known

-- The history goes on from what the seat knows, by entries of its side alone.
abbrev pub IsContinued : SeatState → List Entry → Type 0
IsContinued s h = (rest : List Entry) × (h ≡ s.known ++ rest) × AllByRecursion (λ e. sender_side s.deal s.arc e.sender ≡ s.number) rest
