use Rattle.tests_ledgers.specs.UpTo.{IsLonger}
use Rattle.tests_ledgers.proofs.tests.learning.tick_often.Given as goal

abbrev pub invariant-ticks : goal.invariant-ticks
invariant-ticks l = IsLonger l.fn.ledger l.ledger
