use Rattle.std.proofs.Common.{arith}
use Rattle.swap_base.proofs.Lines.{lines_on, lines_done}
use Rattle.swap_clear.specs.ClearedText.{group_text}
use Rattle.swap_clear.proofs.text.put_groups.Goals as goal

pub loop-group-preserved : goal.loop-group-preserved
loop-group-preserved c = (
  omega (arith, c.loop-group.invariant.0),
  lines_on (group_text c.args.wishes.now) c.loop-group.out.items c.put_group.new.out.items _ c.loop-group.group-index c.args.groups.now
      c.loop-group.group-index c.group-item.result _ c.loop-group-test.true c.group-item.is
      (rw c.loop-group.invariant.0 at c.in_ok-put_group.ensures) c.loop-group.invariant.1,
)

pub returns : goal.returns
returns c = lines_done (group_text c.args.wishes.now) c.loop-group.out.items _ c.loop-group.group-index c.args.groups.now c.loop-group.group-index
    c.loop-group-test.false c.loop-group.invariant.1
