use Rattle.std.proofs.Common.{ap, not, sym}
use Rattle.swap_commands.proofs.Reports.{report_writes}
use Rattle.swap_commands.proofs.run.write_report_or_transcript.Goals as goal

pub returns : goal.returns
returns g c =
    let w = c.write_text-written.ensures in
    report_writes c.args.transcript c.args.job.now c.args.book.now.histories c.in-Ok.report _ _ _ _ c.in-Ok.ensures.exact c.write_text-written.result _
    c.written_status.result c.written_status.ensures (ap not (sym c.is_empty.ensures)) w.all w.write_fault w.no_memory w.failed
