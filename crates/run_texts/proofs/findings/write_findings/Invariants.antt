use Rattle.std.proofs.Common.{◌≤◌}
use Rattle.swap_io.proofs.Handing.{SoFar}
use Rattle.swap_base.specs.Text.{lines}
use Rattle.run_texts.specs.Report.{finding_line}
use Rattle.run_texts.proofs.findings.write_findings.Given as goal

abbrev pub invariant-loop-finding : goal.invariant-loop-finding
invariant-loop-finding g l = record {
  so_far : SoFar (λ _. finding_line l.names) l.findings (lines (λ _. finding_line l.names) 0 l.findings) (g.K.Sink.taken l.fn.sink) l.fn.out.items
      (g.K.Sink.taken l.sink) l.out.items l.finding-index;
  later : g.K.Sink.faults l.fn.sink ≤ g.K.Sink.faults l.sink;
}
