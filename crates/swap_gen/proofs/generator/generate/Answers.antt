use Rattle.swap_gen.specs.Drawn.{drawn_graph}
use Rattle.swap_gen.proofs.Listing.{first_listed, more_listed, is_done}
use Rattle.swap_gen.proofs.generator.generate.Goals as goal

pub loop-e-init : goal.loop-e-init
loop-e-init c = first_listed c.args.seed c.args.parties c.args.events c.in_ok-generator.generator c.new-list.result.items c.in_ok-generator.ensures
    c.new-list.ensures.items

pub loop-e-preserved : goal.loop-e-preserved
loop-e-preserved c =
    more_listed c.args.seed c.args.parties c.args.events c.loop-e._e c.loop-e.generator c.next_event.new.self c.loop-e.list.items c.push.new.self.items
    c.next_event.result
    c.loop-e-test.true c.loop-e.invariant c.next_event.ensures.event c.next_event.ensures.drawn c.next_event.ensures.fits c.in_ok-push.ensures.items

pub returns-clause-events : goal.returns-clause-events
returns-clause-events c =
    is_done c.args.seed (drawn_graph c.args.seed c.args.parties) c.loop-e.generator.place c.loop-e._e c.args.events c.loop-e.list.items _ c.loop-e-test.false
    c.loop-e.invariant.2
