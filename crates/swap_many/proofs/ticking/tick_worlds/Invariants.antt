use Rattle.swap_many.specs.Ticking.{AreTicked}
use Rattle.swap_many.proofs.ticking.tick_worlds.Given as goal

abbrev pub invariant-swaps : goal.invariant-swaps
invariant-swaps l = AreTicked l.on l.k l.s l.fn.worlds.items l.worlds.items
