use Rattle.std.proofs.Common.{◌∙◌, ℕ, Bool, List, ap, subst}
use Rattle.offer_header.specs.Limits.{HoldsEach}
use Rattle.offer_header.specs.Names.{has_strategy}
use Rattle.offer_header.proofs.Strategies.{same_strategies}
use Rattle.tests_books.proofs.tests.memory.check_told.Goals as goal

pub tells-requires-clause-strategies : goal.tells-requires-clause-strategies
tells-requires-clause-strategies g c =
    subst (λ (has : List ℕ → Bool). HoldsEach has c.in_ok-job.field-0.job.roles)
    (ap has_strategy c.as_slice.ensures ∙ same_strategies _ (g.A.Strategies.holds c.args.strategies.now) c.in_ok-strategy_names.ensures)
    c.in_ok-job.ensures.strategies
