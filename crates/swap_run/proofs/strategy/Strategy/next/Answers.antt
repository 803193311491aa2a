use Rattle.std.proofs.Common.{IfOk, sym, subst}
use Rattle.swap_run.specs.View.{IsView, MayAnswer}
use Rattle.swap_run.proofs.strategy.Strategy.next.Goals as goal

pub returns-clause-fits : goal.returns-clause-fits
returns-clause-fits g c =
    let a = c.ask.ensures in
    subst (λ d. IfOk c.ask.result (MayAnswer d c.args.me)) a.2
    (c.args.self.now.fits a.0 c.args.me c.args.turn a.1 c.ask.result
    (subst (λ d. IsView d c.args.me a.1.now.histories) (sym a.2) (subst (λ k. IsView c.args.deal.now c.args.me k.histories) (sym a.3) c.requires.view)) a.4)
