-- How far a machine has learnt a ledger.
use Rattle.std.specs.Prelude.{◌≡◌, ◌<◌, ℕ, length}
use Rattle.ledger_core.specs.Book.{history}
use Rattle.ledger_core.specs.Value.{LedgerState}
use Rattle.swap_rules.specs.Machine.{Begins}
use Rattle.party_machine.specs.Machine.{MachineState}

-- The later ledger is the same one, with no entry less.
pub record IsLonger (old new : LedgerState) : Type 0 where
  pub deal : new.deal ≡ old.deal
  pub arc : new.arc ≡ old.arc
  pub begins : Begins old.history new.history

-- The machine knows the ledger's first entries, each of them in one step.
pub record KnowsFirstEntries (m : MachineState) (l : LedgerState) (steps : ℕ) : Type 0 where
  pub deal : l.deal ≡ m.deal
  pub place : l.arc < length m.known
  pub begins : Begins (history m.known l.arc) l.history
  pub counted : steps ≡ length (history m.known l.arc)
