use Rattle.std.proofs.Common.{◌≤◌}
use Rattle.swap_io.proofs.Handing.{SoFar}
use Rattle.swap_base.specs.Text.{lines}
use Rattle.run_texts.specs.Texts.{ledger_text}
use Rattle.run_texts.proofs.transcript_ledgers.write_ledgers.Given as goal

abbrev pub invariant-loop-arc : goal.invariant-loop-arc
invariant-loop-arc g l = record {
  so_far : SoFar ledger_text l.book.histories (lines ledger_text 0 l.book.histories) (g.K.Sink.taken l.fn.sink) l.fn.out.items (g.K.Sink.taken l.sink)
      l.out.items l.arc;
  later : g.K.Sink.faults l.fn.sink ≤ g.K.Sink.faults l.sink;
}
