use Rattle.std.proofs.Common.{◌≤◌}
use Rattle.swap_io.proofs.Handing.{SoFar}
use Rattle.swap_base.specs.Text.{lines}
use Rattle.run_texts.specs.Report.{ledger_report_text}
use Rattle.run_texts.proofs.ledgers.write_ledgers.Given as goal

abbrev pub invariant-loop-number : goal.invariant-loop-number
invariant-loop-number g l = record {
  so_far : SoFar (ledger_report_text l.names l.deal) l.book.histories (lines (ledger_report_text l.names l.deal) 0 l.book.histories)
      (g.K.Sink.taken l.fn.sink) l.fn.out.items (g.K.Sink.taken l.sink) l.out.items l.number;
  later : g.K.Sink.faults l.fn.sink ≤ g.K.Sink.faults l.sink;
}
