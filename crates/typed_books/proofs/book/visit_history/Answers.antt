use Rattle.std.proofs.Common.{subst, sym}
use Rattle.std.proofs.lemmas.List.Elements.{All-append}
use Rattle.ledger_core.specs.Runs.{expand, run_ticks}
use Rattle.typed_books.specs.Books.{AreTyped, IsTypedEntry}
use Rattle.typed_books.proofs.book.visit_history.Goals as goal

pub returns : goal.returns
returns c =
    subst AreTyped (sym c.parts.ensures.list)
    (All-append IsTypedEntry (expand c.parts.result.0.now) (run_ticks c.parts.result.1) c.visit_items.ensures c.visit_ticks.ensures)
