use Rattle.program_laws.proofs.Audited as audited
use Rattle.program_laws.proofs.program_races_are_audited.Goals as goal

pub returns : goal.returns
returns c = audited.program_races_are_audited
