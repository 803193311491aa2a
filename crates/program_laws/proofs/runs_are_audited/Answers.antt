use Rattle.program_laws.proofs.Audited as audited
use Rattle.program_laws.proofs.runs_are_audited.Goals as goal

pub returns : goal.returns
returns c = audited.runs_are_audited
