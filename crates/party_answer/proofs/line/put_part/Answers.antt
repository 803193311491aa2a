use Rattle.std.proofs.Common.{arith}
use Rattle.party_wallet.specs.Value.{signed_hashkey}
use Rattle.party_answer.proofs.Growing.{lines_done, lines_on}
use Rattle.party_answer.proofs.line.put_part.Goals as goal

pub loop-timed-preserved : goal.loop-timed-preserved
loop-timed-preserved c =
    lines_on c.args.part c.args.me (signed_hashkey c.args.kept.now.keys) _ c.loop-timed.out.items c.put_line.new.out.items c.loop-timed.asked
    c.in_ok-asked.asked c.args.calls.now c.loop-timed.timed-index c.timed-item.result c.loop-timed-test.true c.timed-item.is c.loop-timed.invariant
    c.in_ok-asked.ensures

pub returns : goal.returns
returns c =
    lines_done c.args.part c.args.me (signed_hashkey c.args.kept.now.keys) _ c.loop-timed.out.items c.loop-timed.asked c.args.calls.now
    c.loop-timed.timed-index (omega (arith, c.loop-timed-test.false)) c.loop-timed.invariant
