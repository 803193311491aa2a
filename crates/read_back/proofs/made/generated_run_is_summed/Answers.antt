use Rattle.read_back.proofs.Runs as runs
use Rattle.read_back.proofs.made.generated_run_is_summed.Goals as goal

pub returns : goal.returns
returns c = runs.generated_run_is_summed
