use Rattle.std.proofs.Common.{false, sym, subst}
use Rattle.swap_many.specs.declared.many_event.ManyEvent.{ManyEvent}
use Rattle.swap_many.specs.Kept.{kept_done}
use Rattle.swap_many.specs.Value.{HasManyGone}
use Rattle.swap_many.proofs.worlds.Worlds.step.Goals as goal

pub returns-in-Pay-clause-ok : goal.returns-in-Pay-clause-ok
returns-in-Pay-clause-ok g c =
    subst (λ (e : ManyEvent). HasManyGone (g.A.Strategies.gives c.args.strategies.now) (λ m z. kept_done false m z e) c.args.self.now c.pay.new.self)
    (sym c.in-Pay.is) c.pay.ensures.gone

pub returns-in-Sweep-clause-ok : goal.returns-in-Sweep-clause-ok
returns-in-Sweep-clause-ok g c =
    subst (λ (e : ManyEvent). HasManyGone (g.A.Strategies.gives c.args.strategies.now) (λ m z. kept_done false m z e) c.args.self.now c.sweep.new.self)
    (sym c.in-Sweep.is) c.sweep.ensures.gone
