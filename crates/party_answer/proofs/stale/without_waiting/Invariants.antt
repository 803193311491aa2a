use Rattle.std.proofs.Common.{◌≡◌, ◌++◌}
use Rattle.std.specs.Vec.Iter.{into_iter_items}
use Rattle.useful_calls.specs.Actions.{actions}
use Rattle.party_answer.specs.Stale.{unwaiting}
use Rattle.party_answer.proofs.stale.without_waiting.Given as goal

abbrev pub invariant-calls : goal.invariant-calls
invariant-calls l = record {
  so_far : actions l.left.items ++ unwaiting l.stale (actions (into_iter_items l.due-iterator)) ≡ unwaiting l.stale (actions l.fn.calls.items);
  next : (goal.iterator-calls).can_next l.due-iterator;
  ends : (goal.iterator-calls).is_finite l.due-iterator;
}
