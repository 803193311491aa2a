use Rattle.std.proofs.Common.{refl}
use Rattle.std.proofs.lemmas.Result.{err_from_is_err_and}
use Rattle.command_input.specs.Input.{desk}
use Rattle.swap_job.specs.declared.job.Purpose.TheVariants as purposes
use Rattle.swap_commands.specs.Words.{Check}
use Rattle.swap_commands.specs.Replay.{skipped_event, folded_events}
use Rattle.swap_commands.proofs.Reading.{against_event, check_says, is_read}
use Rattle.swap_commands.proofs.check.examine.Goals as goal

pub skip_events-requires-clause-fits : goal.skip_events-requires-clause-fits
skip_events-requires-clause-fits g c = c.in_ok-job.ensures.line.stands.fits

pub returns-in_err-job-clause-reads : goal.returns-in_err-job-clause-reads
returns-in_err-job-clause-reads g c =
    let p = err_from_is_err_and c.from_residual.result c.from_residual.ensures.1 in
    rw (p.1, p.2) (c.in_err-job.ensures.stops Check refl)

pub returns-in-Ok-clause-reads : goal.returns-in-Ok-clause-reads
returns-in-Ok-clause-reads g c =
    is_read _ purposes.Check (λ job. folded_events skipped_event job 0 tt) _ _ _ _ c.in_ok-job.field-0.job tt c.in_ok-job.ensures.line c.in_ok-job.ensures.header
    c.in-Ok.ensures.exact

pub returns-in-Err-clause-reads : goal.returns-in-Err-clause-reads
returns-in-Err-clause-reads g c =
    let job = c.in_ok-job.field-0.job in
    let mid = desk (g.S.Source.left c.first_line.new.source) (g.S.Source.faults c.first_line.new.source) c.first_line.new.input in
    let now = desk (g.S.Source.left c.skip_events.new.source) (g.S.Source.faults c.skip_events.new.source) c.skip_events.new.input in
    rw c.with_names.ensures
    (against_event _ (folded_events skipped_event job 0 tt) Check (g.S.Source.left c.args.source.now) (g.S.Source.faults c.args.source.now) mid now job.names
    (check_says _ _ _ job c.in_ok-job.ensures.header) c.in_ok-job.ensures.names c.in_ok-job.ensures.line c.in-Err.fault c.in-Err.ensures.stops)
