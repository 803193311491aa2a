use Rattle.program_laws.proofs.Bounded as bounded
use Rattle.program_laws.proofs.brief_is_bounded.Goals as goal

pub returns : goal.returns
returns c = bounded.brief_is_bounded
