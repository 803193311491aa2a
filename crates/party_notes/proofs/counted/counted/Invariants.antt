use Rattle.std.proofs.Common.{◌≡◌, ◌++◌}
use Rattle.std.specs.Vec.Iter.{into_iter_items}
use Rattle.swap_rules.specs.Counted.{counted}
use Rattle.party_notes.proofs.counted.counted.Given as goal

abbrev pub invariant-entries : goal.invariant-entries
invariant-entries l = record {
  so_far : l.list ++ counted l.me (into_iter_items l.entry-iterator) ≡ counted l.me l.history;
  next : (goal.iterator-entries).can_next l.entry-iterator;
  ends : (goal.iterator-entries).is_finite l.entry-iterator;
}
