use Rattle.std.proofs.Common.{◌≡◌, filter, not}
use Rattle.std.specs.List.{range_with_len}
use Rattle.digraph_check.specs.Tree.{is_entered}
use Rattle.digraph_check.proofs.search.missed_parties.Given as goal

abbrev pub invariant-loop-v : goal.invariant-loop-v
invariant-loop-v l = l.parties.items ≡ filter (λ v. not (is_entered l.tree v)) (range_with_len 0 l.v)
