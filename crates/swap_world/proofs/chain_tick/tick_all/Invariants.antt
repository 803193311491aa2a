use Rattle.swap_world.proofs.Rooms.{AreTicked}
use Rattle.swap_world.proofs.chain_tick.tick_all.Given as goal

abbrev pub invariant-arcs : goal.invariant-arcs
invariant-arcs l = AreTicked l._deal l.on l.k l.ready l.fn.ledgers.items l.ledgers.items l.arc-index
