use Rattle.std.proofs.Common.{take, fold}
use Rattle.swap_job.specs.declared.event.Event.TheVariants.{Look}
use Rattle.swap_run.specs.Run.{step}
use Rattle.swap_world.specs.Gone.{HasGone}
use Rattle.swap_world.proofs.fair.look_around.Given as goal

abbrev pub invariant-arcs : goal.invariant-arcs
invariant-arcs g l = HasGone (g.A.Strategies.gives l.strategies) (λ c s. fold (λ t a. step c t (Look l.p a)) s (take l.arc-index l.near)) l.fn.world l.world
