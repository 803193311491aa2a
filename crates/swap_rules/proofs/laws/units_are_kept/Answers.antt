use Rattle.swap_rules.proofs.Units as units
use Rattle.swap_rules.proofs.laws.units_are_kept.Goals as goal

pub returns : goal.returns
returns c = units.units_are_kept
