use Rattle.std.proofs.Common.{◌≡◌, map, take}
use Rattle.swap_clear.specs.Groups.{find_party}
use Rattle.swap_clear.proofs.group_digraph.named.Given as goal

abbrev pub invariant-loop-k : goal.invariant-loop-k
invariant-loop-k l = l.parties.items ≡ map (find_party l.set) (take l.k-index l.places)
