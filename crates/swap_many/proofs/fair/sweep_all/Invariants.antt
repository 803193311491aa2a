use Rattle.std.proofs.Common.{take, fold, length}
use Rattle.std.specs.List.{range_with_len}
use Rattle.swap_many.specs.Fair.{swept_kept}
use Rattle.swap_many.specs.Value.{HasManyGone, nth_world}
use Rattle.swap_many.proofs.fair.sweep_all.Given as goal

abbrev pub invariant-arcs : goal.invariant-arcs
invariant-arcs g l = HasManyGone (g.A.Strategies.gives l.strategies) (λ m z. fold (swept_kept l.swap m) z
    (take l.arc (range_with_len 0 (length (nth_world l.fn.worlds l.swap).deal.graph.arcs)))) l.fn.worlds l.worlds
