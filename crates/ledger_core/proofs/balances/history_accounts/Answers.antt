use Rattle.std.proofs.Common.{sym, ap, ◌∙◌, subst}
use Rattle.swap_base.proofs.Lists.{all_moments_front}
use Rattle.ledger_core.specs.History.{accounts, IsLegal, IsLegalMoment}
use Rattle.ledger_core.specs.Runs.{expand, run_ticks}
use Rattle.ledger_core.proofs.Ticks.{accounts_ticks}
use Rattle.ledger_core.proofs.balances.history_accounts.Goals as goal

pub collect_accounts-requires-clause-legal : goal.collect_accounts-requires-clause-legal
collect_accounts-requires-clause-legal c =
    let d = c.args.deal.now in
    let p = c.parts.result in
    all_moments_front (IsLegalMoment d c.args.arc) (expand p.0.now) (run_ticks p.1) (subst (IsLegal d c.args.arc) c.parts.ensures.list c.requires.legal)

pub returns : goal.returns
returns c =
    let d = c.args.deal.now in
    let run = c.parts.result.1 in
    c.collect_accounts.ensures ∙ sym (ap (accounts d c.args.arc) c.parts.ensures.list
    ∙ accounts_ticks d c.args.arc (expand c.parts.result.0.now) run.above run.by run.count)
