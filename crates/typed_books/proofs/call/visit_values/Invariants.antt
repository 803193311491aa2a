use Rattle.std.proofs.Common.{All, take}
use Rattle.typed_books.specs.Typed.{IsDigest}
use Rattle.typed_books.proofs.call.visit_values.Given as goal

abbrev pub invariant-values : goal.invariant-values
invariant-values l = All IsDigest (take l.value-index l.values)
