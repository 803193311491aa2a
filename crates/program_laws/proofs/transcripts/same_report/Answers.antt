use Rattle.program_laws.proofs.Reports as reports
use Rattle.program_laws.proofs.transcripts.same_report.Goals as goal

pub returns : goal.returns
returns c = reports.same_report
