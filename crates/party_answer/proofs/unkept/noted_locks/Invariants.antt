use Rattle.std.proofs.Common.{◌≡◌, filter}
use Rattle.std.specs.List.{range_with_len}
use Rattle.swap_digraph.specs.Graph.{is_listed}
use Rattle.party_answer.proofs.unkept.noted_locks.Given as goal

abbrev pub invariant-loop-lock : goal.invariant-loop-lock
invariant-loop-lock l = l.locks.items ≡ filter (λ i. is_listed i l.noted) (range_with_len 0 l.lock)
