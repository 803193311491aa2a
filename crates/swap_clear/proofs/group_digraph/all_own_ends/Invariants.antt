use Rattle.std.proofs.Common.{◌≡◌, map, take}
use Rattle.swap_digraph.specs.Graph.{ends}
use Rattle.swap_clear.specs.Groups.{own_ends}
use Rattle.swap_clear.proofs.group_digraph.all_own_ends.Given as goal

abbrev pub invariant-loop-number : goal.invariant-loop-number
invariant-loop-number l = l.list.items ≡ map (λ a. own_ends l.set (ends l.graph a)) (take l.number-index l.numbers)
