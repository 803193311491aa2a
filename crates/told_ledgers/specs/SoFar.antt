-- A ledger as far as its lines were read.
use Rattle.std.specs.Prelude.{ℕ, Bool, List}
use Rattle.swap_digraph.specs.declared.deal.Deal.{Deal}
use Rattle.ledger_core.specs.declared.entry.Entry.{Entry}
use Rattle.told_ledgers.specs.declared.told_ledger.OwnUnlock.{OwnUnlock}

pub record LedgerSoFar : Type 0 where
  pub deal : Deal
  -- the party that is told
  pub me : ℕ
  pub arc : ℕ
  -- the entries that were taken
  pub past : List Entry
  -- by how many heights it ticked behind them
  pub waiting : ℕ
  -- the party's unlocks that can be read, refused ones too
  pub unlocks : List OwnUnlock
  -- a wrong publish was accepted: the calls of others are passed over
  pub is_closed : Bool
