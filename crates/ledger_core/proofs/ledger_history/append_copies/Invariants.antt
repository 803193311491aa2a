use Rattle.std.proofs.Common.{◌≡◌, ◌++◌, take}
use Rattle.ledger_core.proofs.ledger_history.append_copies.Given as goal

abbrev pub invariant-loop-item : goal.invariant-loop-item
invariant-loop-item l = l.list.items ≡ l.initial.list.items ++ take l.item-index l.items
