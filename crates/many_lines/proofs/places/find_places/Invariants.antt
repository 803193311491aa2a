use Rattle.std.proofs.Common.{◌≡◌, drop}
use Rattle.many_lines.specs.Places.{swap_places}
use Rattle.many_lines.proofs.Walks.{with_front}
use Rattle.many_lines.proofs.places.find_places.Given as goal

abbrev pub invariant-swaps : goal.invariant-swaps
invariant-swaps l = with_front l.list.items (swap_places l.many l.swap (drop l.swap l.many.chains)) ≡ swap_places l.many 0 l.many.chains
