use Rattle.std.proofs.Common.{All, take}
use Rattle.typed_books.proofs.Entries.{IsTypedItem}
use Rattle.typed_books.proofs.book.visit_items.Given as goal

abbrev pub invariant-items : goal.invariant-items
invariant-items l = All IsTypedItem (take l.item-index l.items)
