use Rattle.swap_base.proofs.Lines.{lines_on, lines_done}
use Rattle.swap_clear.specs.ClearedText.{left_out_line}
use Rattle.swap_clear.proofs.text.put_all_left_out.Goals as goal

pub loop-arc-preserved : goal.loop-arc-preserved
loop-arc-preserved c = lines_on (left_out_line c.args.names.now) c.loop-arc.out.items c.put_left_out.new.out.items _ c.loop-arc.arc-index c.args.arcs.now
    c.loop-arc.arc-index c.arc-item.result _ c.loop-arc-test.true c.arc-item.is c.in_ok-put_left_out.ensures c.loop-arc.invariant

pub returns : goal.returns
returns c = lines_done (left_out_line c.args.names.now) c.loop-arc.out.items _ c.loop-arc.arc-index c.args.arcs.now c.loop-arc.arc-index
    c.loop-arc-test.false c.loop-arc.invariant
