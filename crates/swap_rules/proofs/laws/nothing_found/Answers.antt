use Rattle.swap_rules.proofs.Found as found
use Rattle.swap_rules.proofs.laws.nothing_found.Goals as goal

pub returns : goal.returns
returns c = found.nothing_found
