use Rattle.swap_run.specs.Fair.{repeat, ticks}
use Rattle.swap_world.specs.Gone.{HasGone}
use Rattle.swap_world.proofs.fair.pass.Given as goal

abbrev pub invariant-rounds : goal.invariant-rounds
invariant-rounds g l = HasGone (g.A.Strategies.gives l.strategies) (λ c s. repeat l.counter (ticks c) s) l.fn.world l.world
