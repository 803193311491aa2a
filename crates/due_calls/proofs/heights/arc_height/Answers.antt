use Rattle.std.proofs.Common.{◌∙◌, ap}
use Rattle.ledger_core.specs.History.{height}
use Rattle.due_calls.proofs.ArcMembers.{history_at}
use Rattle.due_calls.proofs.heights.arc_height.Goals as goal

pub returns-in-Some : goal.returns-in-Some
returns-in-Some g c =
    let l = c.in-Some.ensures.lookup in
    c.height.ensures ∙ ap height (history_at g.F.Facts.entries c.args.known.now c.args.arc c.in-Some.fact.now l.3.0 l.1)
