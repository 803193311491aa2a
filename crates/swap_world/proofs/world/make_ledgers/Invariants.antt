use Rattle.swap_world.specs.Inside.{AreNewLedgers}
use Rattle.swap_world.proofs.world.make_ledgers.Given as goal

abbrev pub invariant-loop-arc : goal.invariant-loop-arc
invariant-loop-arc l = AreNewLedgers l.deal l.arc l.ledgers.items
