-- What acts for a party, and what it learns of a ledger.
use Rattle.std.specs.Prelude.{◌≡◌, ◌<◌, ℕ, List, length, slice_set}
use Rattle.ledger_core.specs.declared.entry.Entry.{Entry}
use Rattle.ledger_core.specs.Value.{LedgerState}
use Rattle.ledger_core.specs.History.{IsLegal}
use Rattle.ledger_core.specs.Book.{history}
use Rattle.swap_rules.specs.Machine.{Begins}
use Rattle.swap_run.specs.Run.{plan_with_ledger}
use Rattle.wallet_journal.specs.Journal.{JournalState}
use Rattle.wallet_journal.specs.Memory.{DiskState}
use Rattle.swap_world.specs.declared.player.Player.{Player}
use Rattle.swap_world.specs.declared.player.Player.TheVariants.{Conforming, Planned, Manual}

-- what acts for a party of a world: each machine has its journal, on a disk in memory
abbrev pub Actor : Type 0
Actor = Player (JournalState DiskState)

-- what acts for a party where no journal is kept, as in a race
abbrev pub Racer : Type 0
Racer = Player (Unit {0})

-- the player without its journal
abbrev pub without_journal : {J : Type 0} → Player J → Racer
without_journal (Conforming m j) = Conforming m tt
without_journal (Planned n) = Planned n
without_journal Manual = Manual

-- the ledger is one of its party's deal, and begins with what the party knows of it
abbrev pub CanLearnLedger : {J : Type 0} → Player J → LedgerState → Type 0
CanLearnLedger (Conforming m j) l =
    (l.deal ≡ m.deal) × IsLegal l.deal l.arc l.history × (l.arc < length l.deal.graph.arcs) × Begins (history m.known l.arc) l.history
CanLearnLedger (Planned n) l = (l.arc < length n.known) × Begins (history n.known l.arc) l.history
CanLearnLedger Manual l = Unit {0}

-- the player that knows the ledger of arc a up to its end
abbrev pub knowing_ledger : {J : Type 0} → Player J → ℕ → List Entry → Player J
knowing_ledger (Conforming m j) a h = Conforming (record m { known = slice_set m.known a h }) j
knowing_ledger (Planned n) a h = Planned (plan_with_ledger n a h)
knowing_ledger Manual a h = Manual
