use Rattle.swap_rules.proofs.Accepted as accepted
use Rattle.swap_rules.proofs.laws.accepted_is_well_sized.Goals as goal

pub returns : goal.returns
returns c = accepted.accepted_is_well_sized
