use Rattle.std.proofs.Common.{◌≡◌, ◌+◌, ◌≤◌, ◌++◌, length, count_by}
use Rattle.std.specs.List.{AllByRecursion}
use Rattle.std.specs.Vec.Iter.{into_iter_items}
use Rattle.ledger_core.specs.Facts.{is_call}
use Rattle.ledger_core.specs.Runs.{expand, IsRight}
use Rattle.history_index.specs.Value.{IsSameArc}
use Rattle.history_index.proofs.extend.push_items.Given as goal

abbrev pub invariant-items : goal.invariant-items
invariant-items g l = record {
  entries : l.index.entries ++ expand (into_iter_items l.item-iterator) ≡ l.initial.index.entries ++ expand l.fn.items.items;
  steps : l.steps + length (expand (into_iter_items l.item-iterator)) ≡ l.initial.steps + length (expand l.fn.items.items);
  same : IsSameArc l.initial.index l.index;
  right : AllByRecursion IsRight (into_iter_items l.item-iterator);
  room : count_by (λ e. is_call e.what) (expand (into_iter_items l.item-iterator)) ≤ l.index.spare;
  next : (goal.iterator-items g).can_next l.item-iterator;
  ends : (goal.iterator-items g).is_finite l.item-iterator;
}
