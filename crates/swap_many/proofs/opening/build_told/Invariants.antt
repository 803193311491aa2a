use Rattle.std.proofs.Common.{◌≡◌, take}
use Rattle.swap_many.proofs.opening.build_told.Given as goal

abbrev pub invariant-chains : goal.invariant-chains
invariant-chains l = l.told.items ≡ take l.chain-index l.chains
