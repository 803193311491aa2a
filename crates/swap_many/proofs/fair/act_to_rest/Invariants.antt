use Rattle.swap_run.specs.Fair.{repeat}
use Rattle.swap_many.specs.Fair.{kept_act}
use Rattle.swap_many.specs.Value.{HasManyGone}
use Rattle.swap_many.proofs.fair.act_to_rest.Given as goal

abbrev pub invariant-acts : goal.invariant-acts
invariant-acts g l = HasManyGone (g.A.Strategies.gives l.strategies) (λ m z. repeat l.counter (kept_act l.swap l.p m) z) l.fn.worlds l.worlds
