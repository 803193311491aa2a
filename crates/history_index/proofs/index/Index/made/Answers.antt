use Rattle.std.proofs.Common.{◌∙◌}
use Rattle.ledger_core.specs.Runs.{expand}
use Rattle.history_index.proofs.Push.{few_made}
use Rattle.history_index.proofs.index.Index.made.Goals as goal

pub returns-clause-few : goal.returns-clause-few
returns-clause-few c =
    let i = c.self.inside in
    let k = c.self.invariant in
    few_made i.from.party i.to.party (expand i.past.items) c.deref.result.now k.indexable (c.deref.ensures.value ∙ k.made)
