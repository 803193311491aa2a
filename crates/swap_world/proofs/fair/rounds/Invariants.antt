use Rattle.std.proofs.Common.{◌≤◌, ◌+◌, ◌-◌}
use Rattle.swap_run.specs.Fair.{repeat, round_unless_ended, the_horizon}
use Rattle.swap_world.specs.Gone.{HasGone}
use Rattle.swap_world.proofs.fair.rounds.Given as goal

abbrev pub invariant-rounds : goal.invariant-rounds
invariant-rounds g l = record {
  few : l.left ≤ the_horizon l.fn.world.deal + 1;
  gone : HasGone (g.A.Strategies.gives l.strategies) (λ c s. repeat ((the_horizon l.fn.world.deal + 1) - l.left) (round_unless_ended c) s) l.fn.world l.world;
}

abbrev pub decreases-rounds : goal.decreases-rounds
decreases-rounds g l = l.left
