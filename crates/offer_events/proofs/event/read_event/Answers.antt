use Rattle.offer_events.proofs.PlainText.{asked_by}
use Rattle.offer_events.proofs.event.read_event.Goals as goal

pub returns-in-Some-clause-exact : goal.returns-in-Some-clause-exact
returns-in-Some-clause-exact c = rw (asked_by c.args.job.now c.args.line c.args.text.now c.in-Some.raw (c.in-Some.ensures c.args.line))
    c.asked_event.ensures.exact
