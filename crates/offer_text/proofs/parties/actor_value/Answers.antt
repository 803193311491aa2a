use Rattle.std.proofs.Common.{◌∙◌, ap, sym}
use Rattle.swap_job.specs.declared.job.Role.TheVariants.{Strategy}
use Rattle.offer_text.proofs.Actors.{actor_said}
use Rattle.offer_text.proofs.parties.actor_value.Goals as goal

pub returns-in-Strategy : goal.returns-in-Strategy
returns-in-Strategy c =
    actor_said c.strategy_value.result c.args.names.now c.args.role.now _
    (c.in-Strategy.is ∙ ap Strategy (sym c.as_slice-in-Strategy.ensures)) c.strategy_value.ensures
