use Rattle.program_laws.proofs.Refused.{named_sets_are_closed as law}
use Rattle.program_laws.proofs.named_sets_are_closed.Goals as goal

pub returns : goal.returns
returns c = law
