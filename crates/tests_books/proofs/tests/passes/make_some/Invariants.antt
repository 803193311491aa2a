use Rattle.tests_books.specs.Stays.{Stays}
use Rattle.tests_books.proofs.tests.passes.make_some.Given as goal

abbrev pub invariant-calls : goal.invariant-calls
invariant-calls g l = Stays l.fn.pass l.pass
