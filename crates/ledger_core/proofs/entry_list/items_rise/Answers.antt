use Rattle.std.proofs.Common.{arith}
use Rattle.ledger_core.proofs.Ticks.{height_to}
use Rattle.ledger_core.proofs.entry_list.items_rise.Goals as goal

pub item_rise-sum-requires : goal.item_rise-sum-requires
item_rise-sum-requires c =
    let low = height_to c.args.items.now c.loop-item.item-index c.item-item.result c.loop-item-test.true c.item-item.is in
    let most = c.requires in
    omega arith

pub overflow_add-sum : goal.overflow_add-sum
overflow_add-sum c =
    let low = height_to c.args.items.now c.loop-item.item-index c.item-item.result c.loop-item-test.true c.item-item.is in
    let most = c.requires in
    omega arith
