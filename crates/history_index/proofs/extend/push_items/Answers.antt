use Rattle.std.proofs.Common.{◌≡◌, ◌++◌, ap}
use Rattle.std.specs.Vec.Iter.{into_iter_items}
use Rattle.ledger_core.specs.Runs.{ledger_entries, expand}
use Rattle.history_index.proofs.Extending.{takes_first, takes_rest}
use Rattle.history_index.proofs.extend.push_items.Goals as goal

pub push_item-requires-clause-indexable : goal.push_item-requires-clause-indexable
push_item-requires-clause-indexable g c =
    let m = c.items.index in
    let e : expand (into_iter_items c.items.item-iterator) ≡ ledger_entries c.in-Some.item ++ expand (into_iter_items c.next.new.self) =
    ap expand c.in-Some.ensures.steps.0 in
    takes_first m.from m.to m.entries (expand (into_iter_items c.items.item-iterator)) (ledger_entries c.in-Some.item) (expand
    (into_iter_items c.next.new.self)) e
    (takes_rest c.args.index.now m (expand c.args.items.items) (expand (into_iter_items c.items.item-iterator)) c.items.invariant.same
    c.items.invariant.entries c.requires.indexable)
