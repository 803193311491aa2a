use Rattle.program_laws.proofs.Whole as whole
use Rattle.program_laws.proofs.run_digests.runs_hold_digests.Goals as goal

pub returns : goal.returns
returns c = whole.runs_hold_digests
