use Rattle.std.proofs.Common.{ℕ, List, [], map, Bor}
use Rattle.std.proofs.lemmas.Result.{err_from_is_err_and}
use Rattle.std.proofs.lemmas.List.Elements.{All-nil, All-push}
use Rattle.swap_job.specs.Step.{IsJobEvent}
use Rattle.swap_offer.specs.Job.{parse_events}
use Rattle.swap_offer.proofs.Events.{starts, goes_on, ends, is_done}
use Rattle.swap_offer.proofs.job.read_events.Goals as goal

-- what stands past the end of a list of lines
abbrev no_line : ℕ × Bor (List ℕ)
no_line = (0, record { ref_ptr = (0, 0); now = [] })

pub lines-init : goal.lines-init
lines-init c = record {
  exact = rw c.new-events.ensures.items (starts (parse_events c.args.job.now 0 (map (λ x. (x.0, x.1.now)) c.args.lines.now)));
  fit = λ need. rw c.new-events.ensures.items (All-nil (IsJobEvent c.args.job.now));
}

pub returns-in_err-event-clause-exact : goal.returns-in_err-event-clause-exact
returns-in_err-event-clause-exact c =
    let p = err_from_is_err_and c.from_residual.result c.from_residual.ensures.1 in
    rw (p.1, p.2) (ends (λ x. x.now) c.args.job.now c.args.lines.now _ c.in_err-event.field-0.0 c.lines.count c.lines.events.items no_line c.lines-test.true
    c.in_err-event.ensures.exact c.lines.invariant.exact)

pub lines-preserved : goal.lines-preserved
lines-preserved c = record {
  exact = rw c.in_ok-push.ensures.items (goes_on (λ x. x.now) c.args.job.now c.args.lines.now _ c.lines.count c.lines.events.items c.in_ok-event.event no_line
      c.lines-test.true c.in_ok-event.ensures.exact c.lines.invariant.exact);
  fit = λ need.
      rw c.in_ok-push.ensures.items (All-push (IsJobEvent c.args.job.now) c.lines.events.items c.in_ok-event.event (c.lines.invariant.fit need)
      (c.in_ok-event.ensures.fits need));
}

pub returns-clause-exact : goal.returns-clause-exact
returns-clause-exact c = is_done (λ x. x.now) c.args.job.now c.args.lines.now _ c.lines.count c.lines.events.items c.lines-test.false c.lines.invariant.exact
