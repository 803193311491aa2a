use Rattle.std.proofs.Common.{ℕ, Err, List, ap, arith, refl, ◌∙◌}
use Rattle.std.proofs.lemmas.Result.{err_from_is_err_and}
use Rattle.swap_io.proofs.Handing.{all_lines, handed_was, hands_after, hands_err, line_lost, line_on, lost_was, rest_lost, rose_before, rose_was}
use Rattle.swap_io.specs.declared.fault.TextFault.TheVariants.{NoMemory}
use Rattle.swap_job.specs.declared.event.Event.{Event}
use Rattle.swap_gen.specs.Events.{generated_events}
use Rattle.swap_gen.specs.Line.{event_line}
use Rattle.made_jobs.proofs.Drawing.{draws, many}
use Rattle.made_jobs.proofs.generated.write_events.Goals as goal

pub returns-in_err-put_event-clause-hands : goal.returns-in_err-put_event-clause-hands
returns-in_err-put_event-clause-hands g c =
    let p = err_from_is_err_and c.from_residual.result c.from_residual.ensures.1 in
    let xs : List Event = generated_events c.args.generator.now.seed c.args.generator.now.parties c.args.events in
    hands_err NoMemory _ _ _ _ _ _ _ _ (p.1 ∙ ap Err p.2) (rest_lost (λ _. event_line c.args.names.now) xs _ _ _ _ _ _ c.events.invariant.so_far)
    c.events.invariant.later (λ is. absurd (cc is))

pub returns-in_err-flush_waiting-clause-hands : goal.returns-in_err-flush_waiting-clause-hands
returns-in_err-flush_waiting-clause-hands g c =
    let p = err_from_is_err_and c.from_residual-in_err-flush_waiting.result c.from_residual-in_err-flush_waiting.ensures.1 in
    let e = c.in_err-flush_waiting.field-0.0 in
    let xs : List Event = generated_events c.args.generator.now.seed c.args.generator.now.parties c.args.events in
    let event = c.next_event-event.result in
    let drawn = c.next_event-event.ensures in
    let d = draws _ _ c.args.events c.events._e _ _ event c.events-test.true c.events.invariant.at drawn.event drawn.drawn in
    hands_err e _ _ _ _ _ _ _ _ (p.1 ∙ ap Err p.2)
    (line_lost (λ _. event_line c.args.names.now) xs _ _ _ e _ _ _ _ c.events._e event event d.low d.event_is
    c.in_ok-put_event.ensures.ok (lost_was e _ _ _ _ _ _ _ _ c.in_err-flush_waiting.was c.flush_waiting.ensures) c.events.invariant.so_far)
    (omega (arith, c.events.invariant.later, c.flush_waiting.ensures.later))
    (λ is. rose_before _ _ _ c.events.invariant.later (rose_was e _ _ _ _ _ _ _ _ c.in_err-flush_waiting.was c.flush_waiting.ensures is))

pub events-preserved : goal.events-preserved
events-preserved g c =
    let xs : List Event = generated_events c.args.generator.now.seed c.args.generator.now.parties c.args.events in
    let event = c.next_event-event.result in
    let drawn = c.next_event-event.ensures in
    let d = draws _ _ c.args.events c.events._e _ _ event c.events-test.true c.events.invariant.at drawn.event drawn.drawn in
    record {
      at = d.on;
      so_far = line_on (λ _. event_line c.args.names.now) xs _ _ _ _ _ _ _ _ c.events._e event event d.low d.event_is
          c.in_ok-put_event.ensures.ok (handed_was _ _ _ _ _ _ _ _ _ c.in_ok-flush_waiting.was c.flush_waiting.ensures) c.events.invariant.so_far;
      later = omega (arith, c.events.invariant.later, c.flush_waiting.ensures.later);
    }

pub returns-clause-hands : goal.returns-clause-hands
returns-clause-hands g c =
    let seed : ℕ = c.args.generator.now.seed in
    let n : ℕ = c.args.generator.now.parties in
    let xs : List Event = generated_events seed n c.args.events in
    let size = many seed n c.args.events in
    hands_after _ _ _ _ _ _ _ _ _ _ _ c.flush.result
    (all_lines (λ _. event_line c.args.names.now) xs _ _ _ _ _ c.events._e (omega (arith, size, c.events-test.false)) c.events.invariant.so_far)
    refl c.events.invariant.later c.flush.ensures.hands
