use Rattle.std.proofs.Common.{take, fold, length}
use Rattle.std.specs.List.{range_with_len}
use Rattle.swap_many.specs.Fair.{kept_chain_tick}
use Rattle.swap_many.specs.Value.{HasManyGone}
use Rattle.swap_many.proofs.fair.ticks.Given as goal

abbrev pub invariant-each : goal.invariant-each
invariant-each g l = HasManyGone (g.A.Strategies.gives l.strategies) (λ m z. fold (kept_chain_tick m) z
    (take l.chain (range_with_len 0 (length l.fn.worlds.openings)))) l.fn.worlds l.worlds
