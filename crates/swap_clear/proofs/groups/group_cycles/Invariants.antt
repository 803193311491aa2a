use Rattle.std.proofs.Common.{◌≡◌, map, take}
use Rattle.swap_clear.specs.Groups.{find_party}
use Rattle.swap_clear.specs.Leaders.{party_cycle}
use Rattle.swap_clear.proofs.groups.group_cycles.Given as goal

abbrev pub invariant-loop-v : goal.invariant-loop-v
invariant-loop-v l = l.cycles.items ≡ map (λ v. map (find_party l.set) (party_cycle l.own l.leaders v)) (take l.v-index l.leaders)
