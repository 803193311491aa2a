use Rattle.program_laws.proofs.Summed as summed
use Rattle.program_laws.proofs.generated.generated_runs_are_summed.Goals as goal

pub returns : goal.returns
returns c = summed.generated_runs_are_summed
