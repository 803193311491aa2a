use Rattle.std.proofs.Common.{◌∙◌, ap, is_some}
use Rattle.ledger_core.specs.History.{is_open}
use Rattle.due_calls.proofs.ArcMembers.{history_at}
use Rattle.due_calls.proofs.Openings.{has_lock, open_number}
use Rattle.due_calls.proofs.locks.is_open.Goals as goal

pub unlocked-requires : goal.unlocked-requires
unlocked-requires g c =
    let l = c.in-Some.ensures.lookup in
    has_lock g.F.Facts.terms c.args.deal.now c.args.known.now c.args.arc c.args.lock c.in-Some.fact.now c.requires.sized c.requires.known l.3.0 l.1
    c.requires.lock

pub returns-in-Some : goal.returns-in-Some
returns-in-Some g c =
    let l = c.in-Some.ensures.lookup in
    c.is_some.ensures ∙ ap is_some c.unlocked.ensures ∙ open_number (g.F.Facts.entries c.in-Some.fact.now) c.args.lock
    ∙ ap (λ h. is_open h c.args.lock) (history_at g.F.Facts.entries c.args.known.now c.args.arc c.in-Some.fact.now l.3.0 l.1)
