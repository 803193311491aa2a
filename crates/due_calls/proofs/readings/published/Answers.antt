use Rattle.std.proofs.Common.{◌∙◌}
use Rattle.due_calls.proofs.ArcMembers.{published_at}
use Rattle.due_calls.proofs.readings.published.Goals as goal

pub returns-in-Some : goal.returns-in-Some
returns-in-Some g c =
    let l = c.in-Some.ensures.lookup in
    c.published.ensures ∙ published_at g.F.Facts.terms g.F.Facts.entries c.args.deal.now c.args.known.now c.args.arc c.in-Some.fact.now c.requires.known
    l.3.0 l.1
