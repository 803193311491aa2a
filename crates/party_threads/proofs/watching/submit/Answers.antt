use Rattle.swap_world.proofs.Ledgers.{on_ok}
use Rattle.party_threads.proofs.Submitting.{passes_on, has_submitted}
use Rattle.party_threads.proofs.watching.submit.Goals as goal

pub returns-clause-gone_on : goal.returns-clause-gone_on
returns-clause-gone_on g c =
    passes_on c.args.side.now.ledgers.now (g.L.Learner.watcher c.args.side.now c.args.learner.now) c.args.passes.now c.args.due.0 c.args.due.1 c.args.verified
    c.requires.watching c.requires.can c.index-passes-place.result c.call.new.place c.call.ensures.later

pub returns-clause-submitted : goal.returns-clause-submitted
returns-clause-submitted g c =
    on_ok c.call.result
    (has_submitted c.args.side.now.ledgers.now (g.L.Learner.watcher c.args.side.now c.args.learner.now) c.args.passes.now c.args.due.0 c.args.due.1 c.args.verified
    c.requires.watching c.requires.can (g.L.Learner.watcher c.args.side.now c.call.new.learner) c.index-passes-place.result c.call.new.place)
    c.call.ensures.made
