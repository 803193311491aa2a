use Rattle.std.proofs.Common.{◌≡◌}
use Rattle.tests_books.proofs.tests.passes.tick_all.Given as goal

abbrev pub invariant-ticks : goal.invariant-ticks
invariant-ticks g l = l.pass.lock ≡ l.fn.pass.lock
