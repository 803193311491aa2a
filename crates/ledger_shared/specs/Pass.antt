-- What the fields of a pass mean, and what holds of them.
use Rattle.std.specs.Prelude.{◌≡◌, ◌≢◌, ◌≤◌, ◌==◌, ◌||◌, ℕ, false, IsTrue, length, take}
use mathlib.Core.List.{IsPrefix}
use Rattle.swap_digraph.specs.Deal.{party, counterparty}
use Rattle.ledger_core.specs.declared.entry.Sender.{Sender}
use Rattle.ledger_core.specs.History.{is_sender}
use Rattle.ledger_shared.specs.Lines.{sender_side}
use Rattle.ledger_shared.specs.Seat.{SeatState}
use Rattle.ledger_shared.specs.Value.{PassState, ClockState, party_made, ticks_in_order}
use Rattle.ledger_shared.specs.declared.pass.Pass.TheInside as pass
use Rattle.ledger_shared.specs.declared.pass.ClockPass.TheInside as clock

abbrev pub inside_pass : pass.Inside → PassState
inside_pass p = record { lock = p.seat.lock; deal = p.seat.deal; arc = p.seat.arc; party = p.party; shared = p.seat.shared; seen = take p.seen p.seat.known }

abbrev pub inside_clock_pass : clock.Inside → ClockState
inside_clock_pass p = record { lock = p.seat.lock; deal = p.seat.deal; arc = p.seat.arc; shared = p.seat.shared; seen = take p.seen p.seat.known }

-- The seat holds no turn, and knows at least what was shared and what was seen.
pub record Rests (s : SeatState) (n : ℕ) : Type 0 where
  pub idle : s.holds ≡ false
  pub began : IsPrefix s.shared s.known
  pub within : n ≤ length s.known

-- The seat makes the entries of the party, one of the two, and of those none stands past what was
-- seen.
pub record IsOfParty (p : pass.Inside) : Type 0 where
  pub rests : Rests p.seat p.seen
  pub of_the_two : IsTrue ((p.party == party p.seat.deal p.seat.arc) || (p.party == counterparty p.seat.deal p.seat.arc))
  pub apart : party p.seat.deal p.seat.arc ≢ counterparty p.seat.deal p.seat.arc
  pub side : (s : Sender) → (sender_side p.seat.deal p.seat.arc s == p.seat.number) ≡ is_sender p.party s
  pub mine : party_made p.party p.seat.known ≡ party_made p.party (take p.seen p.seat.known)

-- The seat makes the ticks, and none stands past what was seen.
pub record IsOfClock (p : clock.Inside) : Type 0 where
  pub rests : Rests p.seat p.seen
  pub side : p.seat.number ≡ 2
  pub mine : ticks_in_order p.seat.known ≡ ticks_in_order (take p.seen p.seat.known)
