use Rattle.std.proofs.Common.{◌+◌, sym, subst}
use Rattle.ledger_core.specs.Book.{Histories}
use Rattle.outcome_rules.proofs.Indexed.{AreFirst, first_more}
use Rattle.outcome_rules.proofs.indexes.build_indexes.Goals as goal

pub loop-arc-preserved : goal.loop-arc-preserved
loop-arc-preserved c =
    let d = c.args.deal.now in
    let n = c.loop-arc.arc in
    let read = c.as_slice-list-items.result.now in
    subst (λ (b : Histories). AreFirst d b (n + 1) c.push.new.self.items) c.as_slice-list-items.ensures
    (first_more d read n c.loop-arc.known.items c.push.new.self.items c.in_ok-build_index.field-0 c.list-item.result c.loop-arc-test.true c.list-item.is
    c.in_ok-build_index.ensures c.in_ok-push.ensures.items
    (subst (λ (b : Histories). AreFirst d b n c.loop-arc.known.items) (sym c.as_slice-list-items.ensures) c.loop-arc.invariant))
