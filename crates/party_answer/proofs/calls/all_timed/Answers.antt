use Rattle.party_answer.proofs.Along.{measured_here}
use Rattle.party_answer.proofs.calls.all_timed.Goals as goal

pub time_call-requires-clause-arc : goal.time_call-requires-clause-arc
time_call-requires-clause-arc c =
    (measured_here c.args.deal.now c.args.calls.now c.loop-due.due-index c.due-item.result c.requires.measured c.loop-due-test.true c.due-item.is).0

pub time_call-requires-clause-path : goal.time_call-requires-clause-path
time_call-requires-clause-path c =
    (measured_here c.args.deal.now c.args.calls.now c.loop-due.due-index c.due-item.result c.requires.measured c.loop-due-test.true c.due-item.is).1
