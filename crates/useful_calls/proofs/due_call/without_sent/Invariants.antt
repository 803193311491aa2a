use Rattle.std.proofs.Common.{◌≡◌, ◌++◌, not, filter}
use Rattle.std.specs.Vec.Iter.{into_iter_items}
use Rattle.swap_digraph.specs.Graph.{is_listed}
use Rattle.wallet_promise.specs.Answers.{was_sent}
use Rattle.useful_calls.specs.Actions.{actions}
use Rattle.useful_calls.proofs.due_call.without_sent.Given as goal

abbrev pub invariant-calls : goal.invariant-calls
invariant-calls l = record {
  so_far : actions l.left.items ++ filter (λ x. not (was_sent (λ a. is_listed a l.sent) x)) (actions (into_iter_items l.due-iterator))
      ≡ filter (λ x. not (was_sent (λ a. is_listed a l.sent) x)) (actions l.fn.calls.items);
  next : (goal.iterator-calls).can_next l.due-iterator;
  ends : (goal.iterator-calls).is_finite l.due-iterator;
}
