use Rattle.std.proofs.Common.{◌≡◌, take}
use Rattle.ledger_core.specs.History.{height}
use Rattle.ledger_core.specs.Runs.{expand}
use Rattle.ledger_core.proofs.entry_list.items_rise.Given as goal

abbrev pub invariant-loop-item : goal.invariant-loop-item
invariant-loop-item l = l.sum ≡ height (expand (take l.item-index l.items))
