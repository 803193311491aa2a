use Rattle.swap_run.specs.Fair.{repeat}
use Rattle.swap_many.specs.Fair.{kept_ticks}
use Rattle.swap_many.specs.Value.{HasManyGone}
use Rattle.swap_many.proofs.fair.pass.Given as goal

abbrev pub invariant-rounds : goal.invariant-rounds
invariant-rounds g l = HasManyGone (g.A.Strategies.gives l.strategies) (λ m z. repeat l.counter (kept_ticks m) z) l.fn.worlds l.worlds
