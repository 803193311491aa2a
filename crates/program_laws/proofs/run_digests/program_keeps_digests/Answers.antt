use Rattle.program_laws.proofs.Rules as rules
use Rattle.program_laws.proofs.run_digests.program_keeps_digests.Goals as goal

pub returns : goal.returns
returns c = rules.program_keeps_digests
