use Rattle.offer_text.specs.HeaderLine.{arc_json}
use Rattle.offer_text.proofs.Values.{number_more}
use Rattle.offer_text.proofs.deal.arcs_value.Goals as goal

pub loop-arc-preserved : goal.loop-arc-preserved
loop-arc-preserved c =
    number_more (arc_json c.args.names.now c.args.deal.now) c.loop-arc.list.items c.push.new.self.items c.loop-arc.arc c.in_ok-arc_json.field-0
    c.loop-arc.invariant c.in_ok-push.ensures.items c.in_ok-arc_json.ensures
