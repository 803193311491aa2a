use Rattle.read_back.proofs.Outputs as outputs
use Rattle.read_back.proofs.made.made_output_is_read_back.Goals as goal

pub returns : goal.returns
returns c = outputs.made_output_is_read_back
