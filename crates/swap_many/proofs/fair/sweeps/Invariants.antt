use Rattle.std.proofs.Common.{take, fold, length}
use Rattle.std.specs.List.{range_with_len}
use Rattle.swap_many.specs.Fair.{kept_swap_sweeps}
use Rattle.swap_many.specs.Value.{HasManyGone}
use Rattle.swap_many.proofs.fair.sweeps.Given as goal

abbrev pub invariant-each : goal.invariant-each
invariant-each g l = HasManyGone (g.A.Strategies.gives l.strategies) (λ m z. fold (kept_swap_sweeps m) z (take l.swap (range_with_len 0 (length l.fn.worlds.worlds))))
    l.fn.worlds l.worlds
