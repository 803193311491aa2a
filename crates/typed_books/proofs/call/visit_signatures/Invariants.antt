use Rattle.std.proofs.Common.{All, take}
use Rattle.typed_books.specs.Typed.{IsSignature}
use Rattle.typed_books.proofs.call.visit_signatures.Given as goal

abbrev pub invariant-sigs : goal.invariant-sigs
invariant-sigs l = All IsSignature (take l.sig-index l.sigs)
