use Rattle.std.proofs.Common.{◌≡◌, take}
use Rattle.ledger_core.specs.History.{accounts}
use Rattle.ledger_core.specs.Runs.{expand}
use Rattle.ledger_core.proofs.balances.collect_accounts.Given as goal

abbrev pub invariant-loop-item : goal.invariant-loop-item
invariant-loop-item l = l.accounts ≡ accounts l.deal l.arc (expand (take l.item-index l.items))
