use Rattle.std.proofs.Common.{take}
use Rattle.swap_run.specs.Run.{continued_run}
use Rattle.swap_world.specs.Gone.{HasGone}
use Rattle.swap_world.proofs.many.run.Given as goal

abbrev pub invariant-events : goal.invariant-events
invariant-events g l = HasGone (g.A.Strategies.gives l.strategies) (λ c s. continued_run c s (take l.event-index l.events)) l.fn.world l.world
