use Rattle.std.proofs.Common.{◌≡◌, ◌++◌, take}
use Rattle.ledger_core.specs.Runs.{expand}
use Rattle.ledger_core.proofs.spread.put_items.Given as goal

abbrev pub invariant-loop-item : goal.invariant-loop-item
invariant-loop-item l = l.out.items ≡ l.fn.out.items ++ expand (take l.item-index l.items)
