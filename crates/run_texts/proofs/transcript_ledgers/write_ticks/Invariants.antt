use Rattle.std.proofs.Common.{◌≤◌}
use Rattle.swap_io.proofs.Handing.{SoFar}
use Rattle.ledger_core.specs.Runs.{run_ticks}
use Rattle.run_texts.specs.Texts.{entries_text, entry_text}
use Rattle.run_texts.proofs.transcript_ledgers.write_ticks.Given as goal

abbrev pub invariant-ticks : goal.invariant-ticks
invariant-ticks g l = record {
  so_far : SoFar entry_text (run_ticks l.run) (entries_text (run_ticks l.run)) (g.K.Sink.taken l.fn.sink) l.fn.out.items (g.K.Sink.taken l.sink) l.out.items
      l.counter;
  later : g.K.Sink.faults l.fn.sink ≤ g.K.Sink.faults l.sink;
}
