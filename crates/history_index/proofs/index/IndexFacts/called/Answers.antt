use Rattle.std.proofs.Common.{sym}
use Rattle.ledger_core.specs.Runs.{expand}
use Rattle.history_index.proofs.Push.{nothing_called}
use Rattle.history_index.proofs.index.IndexFacts.called.Goals as goal

pub returns-then-by-self-2 : goal.returns-then-by-self-2
returns-then-by-self-2 c =
    let i = c.self.inside in
    rw (← c.self.view_is)
    (sym (nothing_called i.from.party i.to.party c.args.by c.args.kind (expand i.past.items) c.self.invariant.indexable.senders c.if-by-self.true
    c.if-by-self-2.true))
