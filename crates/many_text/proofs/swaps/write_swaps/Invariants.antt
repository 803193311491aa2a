use Rattle.std.proofs.Common.{◌≡◌, ◌≤◌, ◌+◌, drop}
use Rattle.swap_io.proofs.Handing.{SoFar}
use Rattle.swap_base.specs.Text.{lines}
use Rattle.swap_many.specs.Value.{many_kept}
use Rattle.many_text.specs.ManyText.{finding_count, kept_swap_text}
use Rattle.many_text.proofs.swaps.write_swaps.Given as goal

abbrev pub invariant-each : goal.invariant-each
invariant-each g l = record {
  so_far : SoFar (kept_swap_text (many_kept l.world)) l.jobs (lines (kept_swap_text (many_kept l.world)) 0 l.jobs)
      (g.K.Sink.taken l.fn.sink) l.fn.out.items (g.K.Sink.taken l.sink) l.out.items l.swap;
  later : g.K.Sink.faults l.fn.sink ≤ g.K.Sink.faults l.sink;
  counted : l.count + finding_count (many_kept l.world) l.swap (drop l.swap l.jobs) ≡ finding_count (many_kept l.world) 0 l.jobs;
}
