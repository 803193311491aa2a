use Rattle.swap_digraph.proofs.Ranges.{map_more}
use Rattle.swap_gen.specs.Drawn.{ring_arc}
use Rattle.swap_gen.proofs.arcs.ring.Goals as goal

pub loop-from-preserved : goal.loop-from-preserved
loop-from-preserved c = map_more (ring_arc c.args.parties) c.loop-from.from c.loop-from.arcs.items c.push.new.self.items c.in_ok-push.ensures.items
    c.loop-from.invariant
