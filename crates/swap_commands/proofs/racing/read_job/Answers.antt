use Rattle.std.proofs.Common.{refl}
use Rattle.std.proofs.lemmas.Result.{err_from_is_err_and}
use Rattle.command_input.specs.Input.{desk}
use Rattle.swap_job.specs.declared.job.Purpose.TheVariants as purposes
use Rattle.swap_commands.specs.Words.{Race}
use Rattle.swap_commands.specs.Replay.{skipped_event, folded_events}
use Rattle.swap_commands.proofs.Reading.{against_event, is_read, race_says}
use Rattle.swap_commands.proofs.Replays.{held}
use Rattle.swap_commands.proofs.racing.read_job.Goals as goal

pub skip_events-requires-clause-fits : goal.skip_events-requires-clause-fits
skip_events-requires-clause-fits g c = c.in_ok-prepared.ensures.line.stands.fits

pub returns-in_err-prepared-clause-stops : goal.returns-in_err-prepared-clause-stops
returns-in_err-prepared-clause-stops g c = λ ticks transcript.
    let p = err_from_is_err_and c.from_residual.result c.from_residual.ensures.1 in
    rw (p.1, p.2) (c.in_err-prepared.ensures.stops (Race ticks transcript) refl)

pub returns-in-Ok-clause-entered : goal.returns-in-Ok-clause-entered
returns-in-Ok-clause-entered g c =
    is_read _ purposes.Race (λ job. folded_events skipped_event job 0 tt) _ _ _ _ c.in_ok-prepared.prepared.job tt c.in_ok-prepared.ensures.line c.in_ok-prepared.ensures.header
    c.in-Ok.ensures.exact

pub returns-in-Ok-clause-can : goal.returns-in-Ok-clause-can
returns-in-Ok-clause-can g c =
    let e = c.in_ok-prepared.ensures in
    record {
      whole = e.whole;
      names = e.known;
      purpose = e.purpose;
      accepted = e.accepted;
      held = held _ c.in_ok-prepared.prepared.job.roles e.strategies;
      scripts = e.scripts;
      fit = e.wallets;
      made = e.made;
    }

pub returns-in-Err-clause-stops : goal.returns-in-Err-clause-stops
returns-in-Err-clause-stops g c = λ ticks transcript.
    let job = c.in_ok-prepared.prepared.job in
    let mid = desk (g.S.Source.left c.first_line.new.source) (g.S.Source.faults c.first_line.new.source) c.first_line.new.input in
    let now = desk (g.S.Source.left c.skip_events.new.source) (g.S.Source.faults c.skip_events.new.source) c.skip_events.new.input in
    rw c.with_names.ensures
    (against_event _ (folded_events skipped_event job 0 tt) (Race ticks transcript) (g.S.Source.left c.args.source.now)
    (g.S.Source.faults c.args.source.now) mid now job.names
    (race_says _ ticks transcript _ _ job c.in_ok-prepared.ensures.header) c.in_ok-prepared.ensures.names c.in_ok-prepared.ensures.line c.in-Err.fault c.in-Err.ensures.stops)
