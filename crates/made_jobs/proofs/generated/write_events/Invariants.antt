use Rattle.std.proofs.Common.{◌≤◌}
use Rattle.swap_io.proofs.Handing.{SoFar}
use Rattle.swap_base.specs.Text.{lines}
use Rattle.swap_gen.specs.Events.{generated_events}
use Rattle.swap_gen.specs.Line.{event_line}
use Rattle.made_jobs.specs.Generating.{HasDrawnEvents}
use Rattle.made_jobs.proofs.generated.write_events.Given as goal

abbrev pub invariant-events : goal.invariant-events
invariant-events g l = record {
  at : HasDrawnEvents l.fn.generator.seed l.fn.generator.parties l.events l._e l.generator;
  so_far : SoFar (λ _. event_line l.names) (generated_events l.fn.generator.seed l.fn.generator.parties l.events)
      (lines (λ _. event_line l.names) 0 (generated_events l.fn.generator.seed l.fn.generator.parties l.events)) (g.K.Sink.taken l.fn.sink) l.fn.out.items
      (g.K.Sink.taken l.sink) l.out.items l._e;
  later : g.K.Sink.faults l.fn.sink ≤ g.K.Sink.faults l.sink;
}
