use Rattle.std.proofs.Common.{refl}
use Rattle.std.proofs.lemmas.Result.{err_from_is_err_and}
use Rattle.command_input.specs.Input.{desk}
use Rattle.swap_job.specs.declared.job.Purpose.TheVariants as purposes
use Rattle.swap_gen.specs.Made.{made}
use Rattle.made_jobs.specs.Making.{copied, written_line}
use Rattle.swap_commands.specs.Words.{Make}
use Rattle.swap_commands.proofs.Reading.{against_event, is_read, make_says}
use Rattle.command_input.proofs.Streams.{no_memory_after}
use Rattle.swap_commands.proofs.make.copy.Goals as goal

pub copy_lines-requires : goal.copy_lines-requires
copy_lines-requires g c = record { fits = c.in_ok-job.ensures.line.stands.fits }

pub returns-in_err-job-clause-reads : goal.returns-in_err-job-clause-reads
returns-in_err-job-clause-reads g c =
    let p = err_from_is_err_and c.from_residual.result c.from_residual.ensures.1 in
    rw (p.1, p.2) (c.in_err-job.ensures.stops Make refl)

pub returns-in_err-text-clause-reads : goal.returns-in_err-text-clause-reads
returns-in_err-text-clause-reads g c =
    let p = err_from_is_err_and c.from_residual-in_err-text.result c.from_residual-in_err-text.ensures.1 in
    rw (p.1, p.2) (no_memory_after _ _ c.in_ok-job.ensures.line.bytes c.in_ok-job.ensures.line.stands)

pub returns-in-Ok-clause-reads : goal.returns-in-Ok-clause-reads
returns-in-Ok-clause-reads g c =
    is_read _ purposes.Make (λ job. copied 0 (written_line (made job))) _ _ _ _ c.in_ok-job.field-0.job _ c.in_ok-job.ensures.line c.in_ok-job.ensures.header
    (rw c.in_ok-text.ensures.line at c.in-Ok.ensures)

pub returns-in-Err-clause-reads : goal.returns-in-Err-clause-reads
returns-in-Err-clause-reads g c =
    let job = c.in_ok-job.field-0.job in
    let mid = desk (g.S.Source.left c.first_line.new.source) (g.S.Source.faults c.first_line.new.source) c.first_line.new.input in
    let now = desk (g.S.Source.left c.copy_lines.new.source) (g.S.Source.faults c.copy_lines.new.source) c.copy_lines.new.input in
    rw c.with_names.ensures
    (against_event _ (copied 0 (written_line (made job))) Make (g.S.Source.left c.args.source.now) (g.S.Source.faults c.args.source.now) mid now job.names
    (make_says _ _ _ job c.in_ok-job.ensures.header) c.in_ok-job.ensures.names c.in_ok-job.ensures.line c.in-Err.fault
    (rw c.in_ok-text.ensures.line at c.in-Err.ensures))
