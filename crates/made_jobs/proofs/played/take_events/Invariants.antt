use Rattle.std.proofs.Common.{◌≡◌, false, drop}
use Rattle.swap_run.specs.Run.{continued_run}
use Rattle.swap_world.specs.Cast.{job_cast}
use Rattle.swap_gen.specs.Drawn.{generated}
use Rattle.swap_gen.specs.Events.{generated_events}
use Rattle.made_jobs.specs.Generating.{IsJobWorld, HasDrawnEvents}
use Rattle.made_jobs.proofs.played.take_events.Given as goal

abbrev pub invariant-events : goal.invariant-events
invariant-events g l = record {
  at : HasDrawnEvents l.fn.generator.seed l.fn.generator.parties l.events l._e l.generator;
  head_matches : IsJobWorld (generated l.fn.generator.seed l.fn.generator.parties) l.world;
  goes_on : l.world.stopped ≡ false;
  rest : continued_run (job_cast (generated l.fn.generator.seed l.fn.generator.parties)) l.world.state
      (drop l._e (generated_events l.fn.generator.seed l.fn.generator.parties l.events))
      ≡ continued_run (job_cast (generated l.fn.generator.seed l.fn.generator.parties)) l.fn.world.state
      (generated_events l.fn.generator.seed l.fn.generator.parties l.events);
}
