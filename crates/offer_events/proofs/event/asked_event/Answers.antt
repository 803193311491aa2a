use Rattle.offer_events.proofs.Fits.{checked_fits}
use Rattle.offer_events.proofs.event.asked_event.Goals as goal

pub returns-clause-fits : goal.returns-clause-fits
returns-clause-fits c = λ needs.
    checked_fits c.args.job.now c.args.line c.args.raw.now c.in_ok-event.event tt c.requires.sized c.requires.names needs c.in_ok-event.ensures
    (rw c.as_slice.ensures at c.in_ok-check_crash.ensures)
