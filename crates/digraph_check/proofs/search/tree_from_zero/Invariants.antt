use Rattle.digraph_check.proofs.Grown.{IsGrown, open_count}
use Rattle.digraph_check.proofs.search.tree_from_zero.Given as goal

abbrev pub invariant-loop-number : goal.invariant-loop-number
invariant-loop-number l = IsGrown (record { n = l.n; arcs = l.arcs }) l.tree.items

abbrev pub decreases-loop-number : goal.decreases-loop-number
decreases-loop-number l = open_count l.tree.items
