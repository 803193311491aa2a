use Rattle.offer_text.proofs.Values.{item_more}
use Rattle.offer_text.proofs.shown.list_value.Goals as goal

pub loop-item-preserved : goal.loop-item-preserved
loop-item-preserved g c =
    item_more g.T.Shown.as_data c.loop-item.list.items c.push.new.self.items c.args.items.now c.loop-item.item-index c.item-item.result c.in_ok-shown.field-0
    c.loop-item-test.true c.item-item.is c.loop-item.invariant c.in_ok-push.ensures.items c.in_ok-shown.ensures
