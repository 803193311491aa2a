-- The turns of a round, and where the ledgers and the passes are.
use Rattle.std.specs.Prelude.{◌≡◌, ◌≢◌, ℕ, ◌+◌, ◌<◌, ◌^◌, false, true, List, [], length, slice_get, slice_index_or, if◌then◌else◌, Option, Some, None}
use Rattle.atomic_table.specs.Seated.{TableId}
use Rattle.swap_digraph.specs.declared.deal.Deal.{Deal}
use Rattle.swap_digraph.specs.Deal.{touches}
use Rattle.ledger_core.specs.declared.entry.Entry.{Entry}
use Rattle.ledger_core.specs.Value.{LedgerState}
use Rattle.ledger_core.specs.Book.{history}
use Rattle.ledger_shared.specs.Value.{PassState, ClockState, party_pass, table_clock, Closes, ClosesClock}
use Rattle.swap_rules.specs.Machine.{Knows}
use Rattle.swap_world.specs.Inside.{IsArcLedger}
use Rattle.swap_world.specs.declared.player.Player.TheVariants.{Conforming, Planned, Manual}
use Rattle.party_threads.specs.declared.turn.Actor.{Actor}
use Rattle.party_threads.specs.declared.turn.Actor.TheVariants.{Party, Clock}
use Rattle.party_threads.specs.declared.turn.Turn.{Turn}
use Rattle.party_threads.specs.Later.{arc_pass, arc_clock}

-- the actor with the number v; the clock's is the number of parties
abbrev pub numbered_actor : Option Turn → Actor
numbered_actor (Some t) = t.actor
numbered_actor None = Clock

abbrev pub held_passes : Option Turn → List (Option PassState)
held_passes (Some t) = t.passes.items
held_passes None = []

abbrev pub held_clocks : Option Turn → List (Option ClockState)
held_clocks (Some t) = t.clocks.items
held_clocks None = []

abbrev pub turn_actor : List Turn → ℕ → Actor
turn_actor ts v = numbered_actor (slice_get ts v)

-- the pass of v at arc a, if any
abbrev pub held_pass : List Turn → ℕ → ℕ → Option PassState
held_pass ts v a = arc_pass (held_passes (slice_get ts v)) a

abbrev pub held_clock : List Turn → ℕ → ℕ → Option ClockState
held_clock ts v a = arc_clock (held_clocks (slice_get ts v)) a

-- the ledger of arc a, where it is at home
abbrev pub arc_ledger : List (Option LedgerState) → ℕ → Option LedgerState
arc_ledger ls a = slice_index_or ls a None

-- what the pass of an actor has seen as it is dealt: what its party knows, or all
abbrev pub pass_start : Actor → ℕ → List Entry → List Entry
pass_start (Party (Conforming m u)) a h = history m.known a
pass_start (Party (Planned n)) a h = history n.known a
pass_start (Party Manual) a h = h
pass_start Clock a h = h

-- the arc is one of those that the actor knows, where it knows any, and what it knows of it can be
-- counted
abbrev pub HasArc : Actor → ℕ → Type 0
HasArc (Party (Conforming m u)) a = a < length m.deal.graph.arcs
HasArc (Party (Planned n)) a = (a < length n.known) × (length (history n.known a) < 2 ^ 32)
HasArc (Party Manual) a = Unit {0}
HasArc Clock a = Unit {0}

-- what the actor v knows of the history of arc a begins it, and holds all calls of v
abbrev pub IsBehind : Actor → ℕ → ℕ → List Entry → Type 0
IsBehind x v a h = Knows v (pass_start x a h) h

-- each actor is behind the histories of its arcs
abbrev pub AreBehind : Deal → List Turn → List (Option LedgerState) → Type 0
AreBehind d ts ls = (v a : ℕ) (l : LedgerState) → v < d.graph.n → a < length d.graph.arcs → arc_ledger ls a ≡ Some l → IsBehind (turn_actor ts v) v a l.history

-- every ledger is at home
abbrev pub IsHome : Deal → ℕ → Option LedgerState → Type 0
IsHome d a None = ⊥
IsHome d a (Some l) = IsArcLedger d a l

pub record AreHome (d : Deal) (ls : List (Option LedgerState)) : Type 0 where
  pub one_each : length ls ≡ length d.graph.arcs
  pub each : (a : ℕ) → a < length d.graph.arcs → IsHome d a (arc_ledger ls a)

-- Each party has a place for a pass at each ledger, and so has the clock.
pub record HavePlaces (d : Deal) (ts : List Turn) : Type 0 where
  pub actors : length ts ≡ d.graph.n + 1
  pub passes : (v : ℕ) → v < d.graph.n → length (held_passes (slice_get ts v)) ≡ length d.graph.arcs
  pub clocks : length (held_clocks (slice_get ts d.graph.n)) ≡ length d.graph.arcs

-- nobody has a pass at arc a
pub record IsArcFree (d : Deal) (ts : List Turn) (a : ℕ) : Type 0 where
  pub passes : (v : ℕ) → v < d.graph.n → held_pass ts v a ≡ None
  pub clock : held_clock ts d.graph.n a ≡ None

abbrev pub AreFree : Deal → List Turn → Type 0
AreFree d ts = (a : ℕ) → a < length d.graph.arcs → IsArcFree d ts a

-- the pass that is dealt to the actor v at a ledger, if the ledger is next to v
abbrev pub dealt_party_pass : Actor → ℕ → TableId → LedgerState → Option PassState
dealt_party_pass x v lock l = if touches l.deal v l.arc then Some (party_pass lock l v (pass_start x l.arc l.history)) else None

-- the pass that is dealt to the actor v at a ledger that is shared, if the ledger is next to v
abbrev pub dealt_shared_pass : Actor → ℕ → Option TableId → Option LedgerState → Option PassState
dealt_shared_pass x v (Some lock) (Some l) = dealt_party_pass x v lock l
dealt_shared_pass x v _ _ = None

abbrev pub dealt_clock : Option TableId → Option LedgerState → Option ClockState
dealt_clock (Some lock) (Some l) = Some (table_clock lock l)
dealt_clock _ _ = None

-- The passes of the ledgers with these locks are dealt, and no others.
pub record AreDealt (d : Deal) (ts : List Turn) (locks : List TableId) (ls : List (Option LedgerState)) : Type 0 where
  pub passes : (v a : ℕ) → v < d.graph.n → a < length d.graph.arcs → held_pass ts v a ≡ dealt_shared_pass (turn_actor ts v) v (slice_get locks a) (arc_ledger ls a)
  pub clocks : (a : ℕ) → a < length d.graph.arcs → held_clock ts d.graph.n a ≡ dealt_clock (slice_get locks a) (arc_ledger ls a)

-- The pass is that of party v at the ledger of arc a with that lock.
pub record IsArcPass (d : Deal) (a : ℕ) (lock : TableId) (v : ℕ) (p : PassState) : Type 0 where
  pub lock_is : p.lock ≡ lock
  pub deal : p.deal ≡ d
  pub arc : p.arc ≡ a
  pub party : p.party ≡ v

-- The three passes at the ledger with that lock are there, each of its side, and nobody else has
-- one.
pub record IsSet (d : Deal) (ts : List Turn) (a : ℕ) (lock : TableId) : Type 0 where
  pub near : (v : ℕ) → v < d.graph.n → touches d v a ≡ true → (p : PassState) × (held_pass ts v a ≡ Some p) × IsArcPass d a lock v p
  pub far : (v : ℕ) → v < d.graph.n → touches d v a ≡ false → held_pass ts v a ≡ None
  pub clock : (p : ClockState) × (held_clock ts d.graph.n a ≡ Some p) × (p.lock ≡ lock)

abbrev pub AreSet : Deal → List Turn → List TableId → Type 0
AreSet d ts locks = (a : ℕ) (lock : TableId) → slice_get locks a ≡ Some lock → IsSet d ts a lock

-- The ledger is closed with the passes that the turns had at its arc.
pub record IsClosed (d : Deal) (ts : List Turn) (a : ℕ) (l : LedgerState) : Type 0 where
  pub home : IsArcLedger d a l
  pub passes : (v : ℕ) (p : PassState) → v < d.graph.n → held_pass ts v a ≡ Some p → Closes l p
  pub clock : (p : ClockState) → held_clock ts d.graph.n a ≡ Some p → ClosesClock l p

abbrev pub IsShut : Deal → List Turn → ℕ → Option LedgerState → Type 0
IsShut d ts a None = ⊥
IsShut d ts a (Some l) = IsClosed d ts a l

-- The actors stay, and so do their places.
pub record IsSameShape (old new : List Turn) : Type 0 where
  pub number : length new ≡ length old
  pub actors : (v : ℕ) → turn_actor new v ≡ turn_actor old v
  pub places : (v : ℕ) → length (held_passes (slice_get new v)) ≡ length (held_passes (slice_get old v))
  pub clock_places : (v : ℕ) → length (held_clocks (slice_get new v)) ≡ length (held_clocks (slice_get old v))

-- Only the pass of v at arc a differs.
pub record IsPut (old : List Turn) (v a : ℕ) (p : Option PassState) (new : List Turn) : Type 0 where
  pub shape : IsSameShape old new
  pub here : held_pass new v a ≡ p
  pub others : (w b : ℕ) → w ≢ v → held_pass new w b ≡ held_pass old w b
  pub elsewhere : (w b : ℕ) → b ≢ a → held_pass new w b ≡ held_pass old w b
  pub clocks : (w b : ℕ) → held_clock new w b ≡ held_clock old w b

-- Only the clock's pass of v at arc a differs.
pub record IsClockPut (old : List Turn) (v a : ℕ) (p : Option ClockState) (new : List Turn) : Type 0 where
  pub shape : IsSameShape old new
  pub here : held_clock new v a ≡ p
  pub elsewhere : (w b : ℕ) → b ≢ a → held_clock new w b ≡ held_clock old w b
  pub held : (w b : ℕ) → held_pass new w b ≡ held_pass old w b

-- Nothing but the passes of arc a differs.
pub record IsSameBut (a : ℕ) (old new : List Turn) : Type 0 where
  pub shape : IsSameShape old new
  pub held : (v b : ℕ) → b ≢ a → held_pass new v b ≡ held_pass old v b
  pub clocks : (v b : ℕ) → b ≢ a → held_clock new v b ≡ held_clock old v b
