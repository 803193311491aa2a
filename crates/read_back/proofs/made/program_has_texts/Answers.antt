use Rattle.read_back.proofs.ProgramNames as kit
use Rattle.read_back.proofs.made.program_has_texts.Goals as goal

pub returns : goal.returns
returns c = kit.program_has_texts
