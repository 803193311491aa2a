use Rattle.std.proofs.Common.{refl}
use Rattle.std.proofs.lemmas.Result.{err_from_is_err_and}
use Rattle.command_input.specs.Input.{desk}
use Rattle.swap_run.specs.Run.{start, step}
use Rattle.swap_world.specs.Cast.{job_cast}
use Rattle.swap_job.specs.declared.job.Purpose.TheVariants as purposes
use Rattle.swap_commands.specs.Words.{Run}
use Rattle.swap_commands.specs.Output.{command_cast}
use Rattle.swap_commands.specs.Replay.{skipped_event, folded_events}
use Rattle.swap_commands.proofs.Reading.{against_event, is_read, run_says}
use Rattle.swap_commands.proofs.Replays.{held}
use Rattle.swap_commands.proofs.run.play.Goals as goal

pub replay-requires-clause-fits : goal.replay-requires-clause-fits
replay-requires-clause-fits g c = c.in_ok-job.ensures.line.stands.fits

pub replay-requires-clause-held : goal.replay-requires-clause-held
replay-requires-clause-held g c = held _ c.in_ok-job.field-0.job.roles c.in_ok-job.ensures.strategies

pub returns-in_err-job-clause-reads : goal.returns-in_err-job-clause-reads
returns-in_err-job-clause-reads g c =
    let p = err_from_is_err_and c.from_residual.result c.from_residual.ensures.1 in
    rw (p.1, p.2) (c.in_err-job.ensures.stops (Run c.args.transcript) refl)

pub returns-in-Ok-clause-reads : goal.returns-in-Ok-clause-reads
returns-in-Ok-clause-reads g c = λ a x.
    is_read _ purposes.Run (λ job. folded_events (step (command_cast a job)) job 0 (start (job_cast job)))
    _ _ _ _ c.in_ok-job.field-0.job c.in-Ok.world.state c.in_ok-job.ensures.line c.in_ok-job.ensures.header (c.in-Ok.ensures.reads a x)

pub returns-in-Ok-clause-held : goal.returns-in-Ok-clause-held
returns-in-Ok-clause-held g c = held _ c.in_ok-job.field-0.job.roles c.in_ok-job.ensures.strategies

pub returns-in-Err-clause-reads : goal.returns-in-Err-clause-reads
returns-in-Err-clause-reads g c =
    let job = c.in_ok-job.field-0.job in
    let mid = desk (g.S.Source.left c.first_line.new.source) (g.S.Source.faults c.first_line.new.source) c.first_line.new.input in
    let now = desk (g.S.Source.left c.replay.new.source) (g.S.Source.faults c.replay.new.source) c.replay.new.input in
    rw c.with_names.ensures
    (against_event _ (folded_events skipped_event job 0 tt) (Run c.args.transcript) (g.S.Source.left c.args.source.now)
    (g.S.Source.faults c.args.source.now) mid now job.names
    (run_says _ c.args.transcript _ _ job c.in_ok-job.ensures.header) c.in_ok-job.ensures.names c.in_ok-job.ensures.line c.in-Err.fault c.in-Err.ensures.reads)
