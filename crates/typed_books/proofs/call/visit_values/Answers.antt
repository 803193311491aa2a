use Rattle.std.proofs.Common.{[], All, arith, subst, take_all}
use Rattle.std.proofs.lemmas.List.Elements.{All-more}
use Rattle.typed_books.specs.Typed.{IsDigest}
use Rattle.typed_books.proofs.call.visit_values.Goals as goal

pub values-preserved : goal.values-preserved
values-preserved c =
    All-more IsDigest c.args.values.now c.values.value-index [] (omega (arith, c.told-values, c.values-test.true)) c.values.invariant c.visit_digest.ensures

pub returns-clause-values : goal.returns-clause-values
returns-clause-values c = subst (All IsDigest) (take_all c.values.value-index c.args.values.now (omega arith)) c.values.invariant
