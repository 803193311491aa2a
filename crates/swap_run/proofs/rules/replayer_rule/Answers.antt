use Rattle.swap_run.specs.Rules.{replayer}
use Rattle.swap_run.proofs.Answering.{replayer_may, as_given}
use Rattle.swap_run.proofs.rules.replayer_rule.Goals as goal

pub returns-clause-fits : goal.returns-clause-fits
returns-clause-fits c =
    as_given c.args.deal.now c.args.me (replayer c.args.deal.now c.args.me c.args.turn c.args.known.now.histories)
    (replayer_may c.args.deal.now c.args.me c.args.turn c.args.known.now.histories c.requires.view.legal) c.unlock_in_turn.result c.unlock_in_turn.ensures
