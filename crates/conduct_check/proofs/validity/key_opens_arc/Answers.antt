use Rattle.due_calls.proofs.Openings.{has_lock}
use Rattle.conduct_check.proofs.validity.key_opens_arc.Goals as goal

pub opened-requires : goal.opened-requires
opened-requires c =
    let l = c.in-Some.ensures.lookup in
    has_lock (λ x. x.terms) c.args.judged.now.deal.now c.args.judged.now.known.now c.args.arc c.args.key.now.lock c.in-Some.index.now c.requires.judged.sized c.requires.judged.known.terms
    l.3.0 l.1 c.requires.lock
