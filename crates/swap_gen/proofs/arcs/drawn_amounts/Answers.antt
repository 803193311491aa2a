use Rattle.std.proofs.Common.{arith}
use Rattle.swap_gen.proofs.Amounts.{amount_more}
use Rattle.swap_gen.proofs.arcs.drawn_amounts.Goals as goal

pub loop-a-preserved : goal.loop-a-preserved
loop-a-preserved c =
    let few = c.requires.few in
    let lt = c.loop-a-test.true in
    amount_more c.args.draws.now.seed c.args.parties c.loop-a._a c.loop-a.draws c.draw.new.self c.draw.result c.loop-a.amounts.items c.push.new.self.items
    c.requires.high (omega (arith, few, lt)) c.loop-a.invariant.1 c.draw.ensures.word c.draw.ensures.place c.in_ok-push.ensures.items c.loop-a.invariant.0
