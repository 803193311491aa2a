use Rattle.std.proofs.Common.{take, fold}
use Rattle.std.specs.List.{range_with_len}
use Rattle.swap_many.specs.Fair.{kept_turn}
use Rattle.swap_many.specs.Value.{HasManyGone, nth_world}
use Rattle.swap_many.proofs.fair.turns.Given as goal

abbrev pub invariant-parties : goal.invariant-parties
invariant-parties g l = HasManyGone (g.A.Strategies.gives l.strategies) (λ m z. fold (kept_turn l.swap m) z
    (take l.p (range_with_len 0 (nth_world l.fn.worlds l.swap).deal.graph.n))) l.fn.worlds l.worlds
