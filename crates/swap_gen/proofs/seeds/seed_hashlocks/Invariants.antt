use Rattle.std.proofs.Common.{◌≡◌, map, take}
use Rattle.swap_gen.specs.Made.{seed_hashlock}
use Rattle.swap_gen.proofs.seeds.seed_hashlocks.Given as goal

abbrev pub invariant-loop-leader : goal.invariant-loop-leader
invariant-loop-leader l = l.hashlocks.items ≡ map (seed_hashlock l.seeds) (take l.leader-index l.leaders)
