use Rattle.std.proofs.Common.{◌≡◌}
use Rattle.swap_many.specs.Inside.{standing}
use Rattle.swap_many.proofs.opening.standing.Given as goal

abbrev pub invariant-chains : goal.invariant-chains
invariant-chains l = l.on.items ≡ standing l.chain l.places
