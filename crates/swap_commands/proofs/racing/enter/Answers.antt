use Rattle.std.proofs.Common.{false}
use Rattle.std.proofs.lemmas.Result.{err_from_is_err_and}
use Rattle.command_input.specs.Input.{desk, fresh}
use Rattle.command_input.proofs.Streams.{calm_of, has_stopped, nothing_read}
use Rattle.swap_commands.specs.Says.{IsCommandRefusal}
use Rattle.swap_commands.specs.Words.{OfJob, Race}
use Rattle.swap_commands.proofs.Saying.{has_entered}
use Rattle.swap_commands.proofs.racing.enter.Goals as goal

pub returns-in-Ok-clause-entered : goal.returns-in-Ok-clause-entered
returns-in-Ok-clause-entered g c = has_entered _ _ _ _ _ c.read_job.new.input c.in-Ok.entered.job c.in-Ok.ensures.entered

pub returns-in_err-input-clause-stopped : goal.returns-in_err-input-clause-stopped
returns-in_err-input-clause-stopped g c =
    let p = err_from_is_err_and c.from_residual.result c.from_residual.ensures.1 in
    rw (p.1, p.2)
    (record { now = fresh; stopped = λ ticks transcript. nothing_read (g.S.Source.left c.args.source.now) (g.S.Source.faults c.args.source.now) })

pub returns-clause-stopped : goal.returns-clause-stopped
returns-clause-stopped g c =
    let first = desk (g.S.Source.left c.args.source.now) (g.S.Source.faults c.args.source.now) fresh in
    let mid = desk (g.S.Source.left c.read_job.new.source) (g.S.Source.faults c.read_job.new.source) c.read_job.new.input in
    let now = desk (g.S.Source.left c.stop.new.source) (g.S.Source.faults c.stop.new.source) c.stop.new.self in
    record {
      now = c.stop.new.self;
      stopped = λ ticks transcript.
          has_stopped (IsCommandRefusal _ (OfJob (Race ticks transcript))) first mid now c.in-Err.fault c.stop.result (c.in-Err.ensures.stops ticks transcript)
          c.stop.ensures;
    }

-- No read failed, unless the fault tells of it.

pub returns-in-Ok-clause-calm : goal.returns-in-Ok-clause-calm
returns-in-Ok-clause-calm g c = λ unless. c.in-Ok.ensures.entered.stands.calm

pub returns-clause-calm : goal.returns-clause-calm
returns-clause-calm g c = λ unless.
    calm_of (IsCommandRefusal (g.A.Strategies.holds c.args.strategies.now) (OfJob (Race 1 false)))
    (desk (g.S.Source.left c.args.source.now) (g.S.Source.faults c.args.source.now) fresh)
    (desk (g.S.Source.left c.stop.new.source) (g.S.Source.faults c.stop.new.source) c.stop.new.self) c.stop.result
    (has_stopped (IsCommandRefusal (g.A.Strategies.holds c.args.strategies.now) (OfJob (Race 1 false)))
    (desk (g.S.Source.left c.args.source.now) (g.S.Source.faults c.args.source.now) fresh)
    (desk (g.S.Source.left c.read_job.new.source) (g.S.Source.faults c.read_job.new.source) c.read_job.new.input)
    (desk (g.S.Source.left c.stop.new.source) (g.S.Source.faults c.stop.new.source) c.stop.new.self) c.in-Err.fault c.stop.result
    (c.in-Err.ensures.stops 1 false) c.stop.ensures)
    (λ e. unless (cc e))
