use Rattle.std.proofs.Common.{take, fold, length}
use Rattle.std.specs.List.{range_with_len}
use Rattle.swap_run.specs.Fair.{tick_low}
use Rattle.swap_world.specs.Gone.{HasGone}
use Rattle.swap_world.proofs.fair.ticks.Given as goal

abbrev pub invariant-arcs : goal.invariant-arcs
invariant-arcs g l =
    HasGone (g.A.Strategies.gives l.strategies) (λ c s. fold (tick_low c) s (take l.arc (range_with_len 0 (length l.fn.world.deal.graph.arcs)))) l.fn.world l.world
