use Rattle.std.proofs.Common.{ap, not, sym}
use Rattle.audit_command.specs.Output.{story, story_output}
use Rattle.audit_command.proofs.Reported.{few_told}
use Rattle.command_input.proofs.Statuses.{status_writes}
use Rattle.audit_command.proofs.command.write_audit_report.Goals as goal

pub write_report-written-requires-clause-parties : goal.write_report-written-requires-clause-parties
write_report-written-requires-clause-parties g c =
    few_told _ _ _ c.args.report.now c.requires.sound.report c.requires.told.whole.sized.parties.1

pub returns : goal.returns
returns g c =
    let w = c.write_report-written.ensures in
    status_writes _ _ _ _ (story_output (story c.args.job.now c.args.book.now.histories) c.args.report.now) c.write_report-written.result _
    c.written_status.result c.written_status.ensures (ap not (sym c.is_empty.ensures)) w.all w.write_fault w.no_memory w.failed
