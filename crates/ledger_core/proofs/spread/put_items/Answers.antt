use Rattle.std.proofs.Common.{arith}
use Rattle.ledger_core.proofs.Ticks.{right_at, put_more, put_all}
use Rattle.ledger_core.proofs.spread.put_items.Goals as goal

pub put_item-requires : goal.put_item-requires
put_item-requires c = right_at c.args.items.now c.loop-item.item-index c.item-item.result c.requires c.loop-item-test.true c.item-item.is

pub loop-item-preserved : goal.loop-item-preserved
loop-item-preserved c =
    put_more _ _ _ c.args.items.now c.loop-item.item-index c.item-item.result c.loop-item-test.true c.item-item.is c.loop-item.invariant
    c.in_ok-put_item.ensures

pub returns : goal.returns
returns c = put_all _ _ c.args.items.now c.loop-item.item-index (omega (arith, c.loop-item-test.false)) c.loop-item.invariant
