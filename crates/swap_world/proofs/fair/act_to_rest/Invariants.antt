use Rattle.swap_job.specs.declared.event.Event.TheVariants.{Act}
use Rattle.swap_run.specs.Run.{step}
use Rattle.swap_run.specs.Fair.{repeat}
use Rattle.swap_world.specs.Gone.{HasGone}
use Rattle.swap_world.proofs.fair.act_to_rest.Given as goal

abbrev pub invariant-acts : goal.invariant-acts
invariant-acts g l = HasGone (g.A.Strategies.gives l._strategies) (λ c s. repeat l.counter (λ t. step c t (Act l.p)) s) l.fn.world l.world
