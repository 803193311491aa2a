use Rattle.swap_rules.proofs.Found as found
use Rattle.swap_rules.proofs.laws.unnamed_is_safe.Goals as goal

pub returns : goal.returns
returns c = found.unnamed_is_safe
