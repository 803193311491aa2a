use Rattle.std.proofs.Common.{sym, subst}
use Rattle.swap_run.specs.View.{MayAnswer}
use Rattle.swap_run.proofs.Answering.{greedy_may}
use Rattle.swap_run.proofs.rules.greedy_rule.Goals as goal

pub returns-clause-fits : goal.returns-clause-fits
returns-clause-fits c =
    subst (MayAnswer c.args.deal.now c.args.me) (sym c.claim_in_turn.ensures)
    (greedy_may c.args.deal.now c.args.me c.args.turn c.args.known.now.histories)
