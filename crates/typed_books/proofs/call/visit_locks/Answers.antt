use Rattle.std.proofs.Common.{[], All, arith, subst, take_all}
use Rattle.std.proofs.lemmas.List.Elements.{All-more}
use Rattle.typed_books.specs.Typed.{IsDigest}
use Rattle.typed_books.proofs.call.visit_locks.Goals as goal

pub locks-preserved : goal.locks-preserved
locks-preserved c =
    All-more IsDigest c.args.locks.now c.locks.lock [] (omega arith) c.locks.invariant (subst IsDigest c.get.ensures c.visit_digest.ensures)

pub returns : goal.returns
returns c = subst (All IsDigest) (take_all c.locks.lock c.args.locks.now (omega arith)) c.locks.invariant
