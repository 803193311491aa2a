use Rattle.swap_base.proofs.Lines.{lines_on, lines_done}
use Rattle.swap_clear.specs.ClearedText.{cycle_line}
use Rattle.swap_clear.proofs.group.put_cycles.Goals as goal

pub loop-cycle-preserved : goal.loop-cycle-preserved
loop-cycle-preserved c = lines_on (cycle_line c.args.names.now) c.loop-cycle.out.items c.put_cycle.new.out.items _ c.loop-cycle.cycle-index c.args.cycles.now
    c.loop-cycle.cycle-index c.cycle-item.result _ c.loop-cycle-test.true c.cycle-item.is c.in_ok-put_cycle.ensures c.loop-cycle.invariant

pub returns : goal.returns
returns c = lines_done (cycle_line c.args.names.now) c.loop-cycle.out.items _ c.loop-cycle.cycle-index c.args.cycles.now c.loop-cycle.cycle-index
    c.loop-cycle-test.false c.loop-cycle.invariant
