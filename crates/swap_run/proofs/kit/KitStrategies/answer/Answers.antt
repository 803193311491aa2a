use Rattle.std.proofs.Common.{ap, sym, ◌∙◌}
use Rattle.std.specs.Prelude.{option_copied}
use Rattle.swap_run.proofs.kit.KitStrategies.answer.Goals as goal

pub returns-clause-gives : goal.returns-clause-gives
returns-clause-gives g c =
    let a = c.in_ok-call.ensures.answer in
    (c.in-Some.strategy.now, a.0, a.1, sym c.get.ensures ∙ ap option_copied c.in-Some.is, a.2, ap (λ k. k.histories) a.3, a.4)
