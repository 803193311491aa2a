use Rattle.std.proofs.lemmas.Result.{IfOk-weaker}
use Rattle.offer_header.proofs.Strategies.{same_strategies}
use Rattle.swap_commands.proofs.header.strategy_names.Goals as goal

pub returns : goal.returns
returns g c = IfOk-weaker c.names.result _ _ (λ names h. same_strategies _ (g.A.Strategies.holds c.args.strategies.now) h) c.names.ensures
