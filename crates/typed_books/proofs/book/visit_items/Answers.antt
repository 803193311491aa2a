use Rattle.std.proofs.Common.{All, arith, subst, take_all}
use Rattle.std.proofs.lemmas.List.Elements.{All-more}
use Rattle.typed_books.proofs.Entries.{IsTypedItem, expanded_typed}
use Rattle.typed_books.proofs.book.visit_items.Goals as goal

pub items-preserved : goal.items-preserved
items-preserved c =
    All-more IsTypedItem c.args.items.now c.items.item-index c.item-item.result c.items-test.true c.items.invariant
    (subst IsTypedItem c.item-item.is c.visit_item.ensures)

pub returns : goal.returns
returns c =
    expanded_typed c.args.items.now (subst (All IsTypedItem) (take_all c.items.item-index c.args.items.now (omega arith)) c.items.invariant)
