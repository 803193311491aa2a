use Rattle.std.proofs.Common.{◌≤◌, ◌+◌, ◌-◌}
use Rattle.swap_run.specs.Fair.{repeat}
use Rattle.swap_many.specs.Many.{last_horizon}
use Rattle.swap_many.specs.Fair.{kept_round_or_rest}
use Rattle.swap_many.specs.Value.{HasManyGone, world_setup}
use Rattle.swap_many.proofs.fair.rounds.Given as goal

abbrev pub invariant-rounds : goal.invariant-rounds
invariant-rounds g l = record {
  few : l.left ≤ last_horizon (world_setup l.fn.worlds) + 1;
  gone : HasManyGone (g.A.Strategies.gives l.strategies) (λ m z. repeat ((last_horizon (world_setup l.fn.worlds) + 1) - l.left) (kept_round_or_rest m) z) l.fn.worlds
      l.worlds;
}

abbrev pub decreases-rounds : goal.decreases-rounds
decreases-rounds g l = l.left
