use Rattle.std.proofs.Common.{refl}
use Rattle.swap_base.proofs.Lines.{lines_on, lines_done}
use Rattle.command_input.specs.Line.{comma_named}
use Rattle.command_input.proofs.line.put_further.Goals as goal

pub loop-p-preserved : goal.loop-p-preserved
loop-p-preserved c = lines_on (comma_named c.args.names.now) c.loop-p.out.items c.put_comma_name.new.out.items _ c.loop-p.p-index c.args.parties.now
    c.loop-p.p-index _ _ c.loop-p-test.true refl c.in_ok-put_comma_name.ensures c.loop-p.invariant

pub returns : goal.returns
returns c = lines_done (comma_named c.args.names.now) c.loop-p.out.items _ c.loop-p.p-index c.args.parties.now c.loop-p.p-index c.loop-p-test.false
    c.loop-p.invariant
