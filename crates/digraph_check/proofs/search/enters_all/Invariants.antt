use Rattle.std.proofs.Common.{◌≡◌, true}
use Rattle.std.specs.List.{list_all, range_with_len}
use Rattle.digraph_check.specs.Tree.{is_entered}
use Rattle.digraph_check.proofs.search.enters_all.Given as goal

abbrev pub invariant-loop-v : goal.invariant-loop-v
invariant-loop-v l = list_all (is_entered l.tree) (range_with_len 0 l.v) ≡ true
