use Rattle.program_laws.proofs.Apart as apart
use Rattle.program_laws.proofs.each_is_told_alone.Goals as goal

pub returns : goal.returns
returns c = apart.each_is_told_alone
