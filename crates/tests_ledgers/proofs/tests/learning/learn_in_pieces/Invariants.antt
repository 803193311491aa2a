use Rattle.tests_ledgers.specs.UpTo.{KnowsFirstEntries}
use Rattle.tests_ledgers.proofs.tests.learning.learn_in_pieces.Given as goal

abbrev pub invariant-looks : goal.invariant-looks
invariant-looks g l = KnowsFirstEntries l.machine l.ledger l.steps
