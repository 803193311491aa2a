use Rattle.std.proofs.Common.{arith}
use Rattle.ledger_core.proofs.Ticks.{put_tick}
use Rattle.ledger_core.proofs.spread.put_ticks.Goals as goal

pub ticks-preserved : goal.ticks-preserved
ticks-preserved c = record {
  out = put_tick _ _ _ c.args.run c.ticks.counter c.ticks.height c.ticks.invariant.out c.ticks.invariant.height c.in_ok-push.ensures.items;
  height = omega (arith, c.ticks.invariant.height);
}
