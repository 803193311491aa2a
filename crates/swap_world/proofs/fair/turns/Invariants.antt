use Rattle.std.proofs.Common.{take, fold}
use Rattle.std.specs.List.{range_with_len}
use Rattle.swap_run.specs.Fair.{turn}
use Rattle.swap_world.specs.Gone.{HasGone}
use Rattle.swap_world.proofs.fair.turns.Given as goal

abbrev pub invariant-parties : goal.invariant-parties
invariant-parties g l =
    HasGone (g.A.Strategies.gives l.strategies) (λ c s. fold (turn c) s (take l.p (range_with_len 0 l.fn.world.deal.graph.n))) l.fn.world l.world
