use Rattle.std.proofs.Common.{ap}
use Rattle.offer_header.specs.Names.{has_strategy}
use Rattle.many_lines.specs.Heading.{HeadingState}
use Rattle.many_lines.proofs.Swaps.{held_after, held_as}
use Rattle.many_lines.proofs.heading.Heading.push.Goals as goal

pub returns-in-First-clause-held : goal.returns-in-First-clause-held
returns-in-First-clause-held c =
    held_as c.take_first.result (has_strategy c.args.strategies.now) _ _ _
    (ap (λ (s : HeadingState). s.many.jobs) c.self.view_is) c.take_first.ensures.jobs

pub returns-in-Words-clause-held : goal.returns-in-Words-clause-held
returns-in-Words-clause-held c =
    held_as c.take_fields.result (has_strategy c.args.strategies.now) _ _ _
    (ap (λ (s : HeadingState). s.many.jobs) c.self.view_is) c.take_fields.ensures.jobs

pub returns-in-Header-clause-held : goal.returns-in-Header-clause-held
returns-in-Header-clause-held c =
    held_after c.take_header.result (has_strategy c.args.strategies.now) _ _ _
    (ap (λ (s : HeadingState). s.many.jobs) c.self.view_is) c.take_header.ensures.held
