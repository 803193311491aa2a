use Rattle.swap_run.specs.Rules.{spoiler}
use Rattle.swap_run.proofs.Answering.{spoiler_may, as_given}
use Rattle.swap_run.proofs.rules.spoiler_rule.Goals as goal

pub returns-clause-fits : goal.returns-clause-fits
returns-clause-fits c =
    as_given c.args.deal.now c.args.me (spoiler c.args.deal.now c.args.me c.args.turn c.args._known.now.histories)
    (spoiler_may c.args.deal.now c.args.me c.args.turn c.args._known.now.histories c.requires.view.sized) c.publish_in_turn.result c.publish_in_turn.ensures
