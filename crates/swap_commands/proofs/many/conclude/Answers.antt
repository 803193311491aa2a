use Rattle.std.proofs.Common.{sym, subst}
use Rattle.swap_many.specs.Value.{HasManyGone}
use Rattle.swap_many.proofs.Gone.{begun}
use Rattle.swap_commands.specs.Many.{kept_after_finish}
use Rattle.swap_commands.proofs.many.conclude.Goals as goal

pub returns-in-Stop : goal.returns-in-Stop
returns-in-Stop g c =
    let gives = g.A.Strategies.gives c.args.strategies.now in
    subst (λ f. HasManyGone gives (kept_after_finish f) c.args.world c.args.world) (sym c.in-Stop.is) (begun gives c.args.world)
