use Rattle.program_laws.proofs.Refused.{named_cycles_are_of_followers as law}
use Rattle.program_laws.proofs.named_cycles_are_of_followers.Goals as goal

pub returns : goal.returns
returns c = law
