-- What the fields of a ledger mean, and what holds of them.
use Rattle.std.specs.Prelude.{◌≡◌, ◌<◌, ℕ, List, count_by, length, Option}
use Rattle.swap_digraph.specs.declared.deal.Deal.{Deal}
use Rattle.swap_digraph.specs.Deal.{party, counterparty, IsWellSized}
use Rattle.escrow_core.specs.Value.{ContractState}
use Rattle.ledger_core.specs.declared.entry.Entry.{Entry}
use Rattle.ledger_core.specs.declared.accounts.Accounts.{Accounts}
use Rattle.ledger_core.specs.History.{height, accounts, is_sender, is_tick, IsLegal}
use Rattle.ledger_core.specs.Value.{LedgerState}
use Rattle.ledger_core.specs.Ledger.{history_contract}
use Rattle.ledger_core.specs.declared.ledger.Ledger.TheInside as ledger

abbrev pub make_ledger : ledger.Inside → LedgerState
make_ledger l = record { deal = l.deal; arc = l.arc; history = l.history.list; spare = l.history.spare }

-- The history is legal, and what is kept beside it is what the scans of it give.
pub record AreScans (d : Deal) (a : ℕ) (h : List Entry) (at : ℕ) (now : Accounts) (state : Option ContractState)
    (party_calls counterparty_calls clock_calls : ℕ) : Type 0 where
  pub legal : IsLegal d a h
  pub height : at ≡ height h
  pub accounts : now ≡ accounts d a h
  pub contract : state ≡ history_contract d a h
  pub by_party : party_calls ≡ count_by (λ e. is_sender (party d a) e.sender) h
  pub by_counterparty : counterparty_calls ≡ count_by (λ e. is_sender (counterparty d a) e.sender) h
  pub ticks : clock_calls ≡ count_by (λ e. is_tick e.sender) h

pub record IsKeptLedger (l : ledger.Inside) : Type 0 where
  pub sized : IsWellSized l.deal
  pub arc : l.arc < length l.deal.graph.arcs
  pub party : l.party ≡ party l.deal l.arc
  pub counterparty : l.counterparty ≡ counterparty l.deal l.arc
  pub scans : AreScans l.deal l.arc l.history.list l.height l.accounts l.contract l.party_calls l.counterparty_calls l.ticks
