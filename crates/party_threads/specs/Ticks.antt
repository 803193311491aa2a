-- The clock and its passes.
use Rattle.std.specs.Prelude.{◌≡◌, ℕ, ◌+◌, ◌<◌, ◌≤◌, List, [], ◌∷◌, ◌++◌, length, slice_index_or, Option, Some, None}
use mathlib.Core.List.{IsPrefix}
use Rattle.escrow_core.specs.declared.reply.Reply.TheVariants.{Accepted}
use Rattle.ledger_core.specs.History.{height}
use Rattle.ledger_core.specs.Ledger.{tick_entry}
use Rattle.ledger_shared.specs.Value.{ClockState, SharedState, clock_mine}
use Rattle.party_threads.specs.Later.{IsClockLater, arc_clock}

-- the ledger takes a further tick
pub record HasRoomForTicks (ticks : ℕ) (p : ClockState) : Type 0 where
  pub few : length (clock_mine p) < 20000
  pub low : height (clock_mine p) + ticks ≤ 1000000

-- One more tick stands, and all that was shared was seen.
pub record HasTickedOnce (ticks : ℕ) (p q : ClockState) : Type 0 where
  pub later : IsClockLater p q
  pub mine : clock_mine q ≡ clock_mine p ++ tick_entry ticks (height (clock_mine p) + ticks) Accepted ∷ []
  pub whole : IsPrefix q.shared q.seen

-- each pass is that of the ledger at its place, and has room
pub record AreLedgerClocks (ticks : ℕ) (ledgers : List SharedState) (ps : List (Option ClockState)) : Type 0 where
  pub places : length ps ≡ length ledgers
  pub lock : (a : ℕ) (s : SharedState) (p : ClockState) → a < length ps → s ≡ slice_index_or ledgers a s → arc_clock ps a ≡ Some p → p.lock ≡ s.lock
  pub room : (a : ℕ) (p : ClockState) → a < length ps → arc_clock ps a ≡ Some p → HasRoomForTicks ticks p

-- the pass has gone on, or there is none
abbrev pub ClockAdvanced : Option ClockState → Option ClockState → Type 0
ClockAdvanced None q = q ≡ None
ClockAdvanced (Some p) q = (r : ClockState) × (q ≡ Some r) × IsClockLater p r

abbrev pub HaveClocksAdvanced : List (Option ClockState) → List (Option ClockState) → Type 0
HaveClocksAdvanced ps qs = (a : ℕ) → ClockAdvanced (arc_clock ps a) (arc_clock qs a)

-- the ledger of the pass has ticked once, or there is none
abbrev pub Ticked : ℕ → Option ClockState → Option ClockState → Type 0
Ticked ticks None q = q ≡ None
Ticked ticks (Some p) q = (r : ClockState) × (q ≡ Some r) × HasTickedOnce ticks p r

abbrev pub HaveTicked : ℕ → List (Option ClockState) → List (Option ClockState) → Type 0
HaveTicked ticks ps qs = (a : ℕ) → Ticked ticks (arc_clock ps a) (arc_clock qs a)
