use Rattle.std.proofs.Common.{All, arith, subst, take_all}
use Rattle.std.proofs.lemmas.List.Elements.{All-more}
use Rattle.typed_books.specs.Typed.{IsSignature}
use Rattle.typed_books.proofs.call.visit_signatures.Goals as goal

pub sigs-preserved : goal.sigs-preserved
sigs-preserved c =
    All-more IsSignature c.args.sigs.now c.sigs.sig-index c.sig-item.result c.sigs-test.true c.sigs.invariant
    (subst IsSignature c.sig-item.is c.visit_signature.ensures)

pub returns : goal.returns
returns c = subst (All IsSignature) (take_all c.sigs.sig-index c.args.sigs.now (omega arith)) c.sigs.invariant
