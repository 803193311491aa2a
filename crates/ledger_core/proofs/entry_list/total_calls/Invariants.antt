use Rattle.std.proofs.Common.{◌≡◌, ◌≤◌, take, count_by}
use Rattle.ledger_core.specs.Facts.{is_call}
use Rattle.ledger_core.specs.Runs.{expand}
use Rattle.ledger_core.proofs.entry_list.total_calls.Given as goal

abbrev pub invariant-loop-item : goal.invariant-loop-item
invariant-loop-item l = record { count : l.sum ≡ count_by (λ e. is_call e.what) (expand (take l.item-index l.items)); few : l.sum ≤ l.item-index }
