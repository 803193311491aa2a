-- What callers see of a history and of a ledger.
use Rattle.std.specs.Prelude.{◌<◌, ◌^◌, ℕ, List, length}
use Rattle.swap_digraph.specs.declared.deal.Deal.{Deal}
use Rattle.ledger_core.specs.declared.entry.Entry.{Entry}
use Rattle.ledger_core.specs.History.{height}

pub record HistoryState : Type 0 where
  pub list : List Entry
  -- how many further entries have room already
  pub spare : ℕ

pub record LedgerState : Type 0 where
  pub deal : Deal
  pub arc : ℕ
  pub history : List Entry
  -- how many further entries have room already
  pub spare : ℕ

-- Entries with heights and numbers of 32 bits; those of every legal history are such.
pub record IsCountable (h : List Entry) : Type 0 where
  pub height : height h < 2 ^ 32
  pub count : length h < 2 ^ 32
