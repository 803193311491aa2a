use Rattle.std.proofs.Common.{◌<◌, ℕ}
use Rattle.digraph_check.specs.Tree.{IsCrossing}
use Rattle.digraph_check.proofs.search.crossing.Given as goal

abbrev pub invariant-loop-number : goal.invariant-loop-number
invariant-loop-number l = (a : ℕ) → a < l.number → IsCrossing l.arcs l.tree a → ⊥
