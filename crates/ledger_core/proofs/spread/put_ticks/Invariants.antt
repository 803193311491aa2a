use Rattle.std.proofs.Common.{◌≡◌, ◌+◌, ◌*◌, ◌++◌}
use Rattle.ledger_core.specs.Runs.{ticks_above}
use Rattle.ledger_core.proofs.spread.put_ticks.Given as goal

abbrev pub invariant-ticks : goal.invariant-ticks
invariant-ticks l = record {
  out : l.out.items ≡ l.fn.out.items ++ ticks_above l.run.above l.run.by l.counter;
  height : l.height ≡ l.run.above + l.run.by * l.counter;
}
