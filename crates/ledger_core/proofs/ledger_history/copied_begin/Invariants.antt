use Rattle.std.proofs.Common.{◌≡◌, ◌+◌, ◌<◌, ◌≤◌, length, drop}
use Rattle.ledger_core.specs.Runs.{expand}
use Rattle.ledger_core.proofs.ledger_history.copied_begin.Given as goal

abbrev pub invariant-loop-missing : goal.invariant-loop-missing
invariant-loop-missing l = record { within : l.next ≤ length l.items; some : 0 < l.missing; rest : l.missing + length (expand (drop l.next l.items)) ≡ l.n }

abbrev pub decreases-loop-missing : goal.decreases-loop-missing
decreases-loop-missing l = l.next
