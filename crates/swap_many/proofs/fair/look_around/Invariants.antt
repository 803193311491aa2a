use Rattle.std.proofs.Common.{take, fold}
use Rattle.swap_many.specs.Fair.{kept_look}
use Rattle.swap_many.specs.Value.{HasManyGone}
use Rattle.swap_many.proofs.fair.look_around.Given as goal

abbrev pub invariant-arcs : goal.invariant-arcs
invariant-arcs g l = HasManyGone (g.A.Strategies.gives l.strategies) (λ m z. fold (kept_look l.swap l.p m) z (take l.arc-index l.near)) l.fn.worlds l.worlds
