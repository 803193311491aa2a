use Rattle.std.proofs.Common.{All, arith, subst, take_all}
use Rattle.std.proofs.lemmas.List.Elements.{All-more}
use Rattle.typed_books.specs.Books.{AreTyped}
use Rattle.typed_books.proofs.book.visit_histories.Goals as goal

pub histories-preserved : goal.histories-preserved
histories-preserved c =
    All-more AreTyped c.args.histories.now c.histories.history-index c.history-item.result c.histories-test.true c.histories.invariant
    (subst AreTyped c.history-item.is c.visit_history.ensures)

pub returns : goal.returns
returns c = subst (All AreTyped) (take_all c.histories.history-index c.args.histories.now (omega arith)) c.histories.invariant
