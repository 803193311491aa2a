use Rattle.std.proofs.Common.{◌+◌, ◌++◌, length, sym, ap, ◌∙◌, subst}
use Rattle.ledger_core.specs.Runs.{ledger_entries}
use Rattle.history_index.specs.Numbers.{IsIndexable}
use Rattle.history_index.proofs.Extending.{takes_all, length_run}
use Rattle.history_index.proofs.extend.push_item.Goals as goal

pub push-requires-clause-indexable : goal.push-requires-clause-indexable
push-requires-clause-indexable g c =
    let i = c.args.index.now in
    subst (λ x. IsIndexable i.from i.to (i.entries ++ ledger_entries x)) c.in-One.is (takes_all i.from i.to i.entries
    (ledger_entries c.args.item) c.requires.indexable)

pub push_ticks-requires-clause-indexable : goal.push_ticks-requires-clause-indexable
push_ticks-requires-clause-indexable g c =
    let i = c.args.index.now in
    subst (λ x. IsIndexable i.from i.to (i.entries ++ ledger_entries x)) c.in-Ticks.is
    (takes_all i.from i.to i.entries (ledger_entries c.args.item) c.requires.indexable)

pub returns-in-Ticks-clause-steps : goal.returns-in-Ticks-clause-steps
returns-in-Ticks-clause-steps g c =
    c.push_ticks.ensures.steps ∙ ap (λ n. c.args.steps.now + n) (sym (ap (λ x. length (ledger_entries x)) c.in-Ticks.is ∙ length_run c.in-Ticks.run'))
