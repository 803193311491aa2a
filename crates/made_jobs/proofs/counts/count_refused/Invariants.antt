use Rattle.std.proofs.Common.{◌≡◌, ◌≤◌, take, count_by}
use Rattle.ledger_core.specs.Runs.{expand}
use Rattle.made_jobs.specs.Counts.{is_refused}
use Rattle.made_jobs.proofs.counts.count_refused.Given as goal

abbrev pub invariant-loop-item : goal.invariant-loop-item
invariant-loop-item l = record { count : l.sum ≡ count_by is_refused (expand (take l.item-index l.items)); few : l.sum ≤ l.item-index }
