use Rattle.std.proofs.Common.{◌∙◌, ap}
use Rattle.ledger_core.specs.History.{opened}
use Rattle.history_index.specs.Value.{IndexState}
use Rattle.due_calls.proofs.ArcMembers.{history_at}
use Rattle.due_calls.proofs.Openings.{has_lock}
use Rattle.conduct_check.proofs.openings.opened.Goals as goal

pub opened-requires : goal.opened-requires
opened-requires c =
    let l = c.in-Some.ensures.lookup in
    has_lock (λ (x : IndexState). x.terms) c.args.deal.now c.args.known.now c.args.arc c.args.lock c.in-Some.index.now c.requires.sized
    c.requires.known.terms l.3.0 l.1 c.requires.lock

pub returns-in-Some : goal.returns-in-Some
returns-in-Some c =
    let l = c.in-Some.ensures.lookup in
    c.opened.ensures ∙ ap (λ h. opened h c.args.lock) (history_at (λ (x : IndexState). x.entries) c.args.known.now c.args.arc c.in-Some.index.now l.3.0 l.1)
