use Rattle.party_threads.proofs.Clocks.{IsTicking}
use Rattle.party_threads.proofs.clock.take_clock_turn.Given as goal

abbrev pub invariant-arcs : goal.invariant-arcs
invariant-arcs g l = IsTicking l.ticks l.ledgers l.fn.passes l.arc l.passes
