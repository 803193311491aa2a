use Rattle.program_laws.proofs.Audited as audited
use Rattle.program_laws.proofs.audits_tell_the_run.Goals as goal

pub returns : goal.returns
returns c = audited.audits_tell_the_run
