use Rattle.program_laws.proofs.Audited as audited
use Rattle.program_laws.proofs.races_are_audited.Goals as goal

pub returns : goal.returns
returns c = audited.races_are_audited
