use Rattle.std.proofs.Common.{All, take}
use Rattle.typed_books.specs.Books.{AreTyped}
use Rattle.typed_books.proofs.book.visit_histories.Given as goal

abbrev pub invariant-histories : goal.invariant-histories
invariant-histories l = All AreTyped (take l.history-index l.histories)
