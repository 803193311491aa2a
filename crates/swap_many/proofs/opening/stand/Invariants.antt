use Rattle.std.proofs.Common.{◌≡◌, map, take}
use Rattle.swap_many.specs.Inside.{stands}
use Rattle.swap_many.proofs.opening.stand.Given as goal

abbrev pub invariant-swaps : goal.invariant-swaps
invariant-swaps l = l.on.items ≡ map (stands l.chain) (take l.s l.places)
