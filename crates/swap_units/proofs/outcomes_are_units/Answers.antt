use Rattle.swap_units.proofs.Units as units
use Rattle.swap_units.proofs.outcomes_are_units.Goals as goal

pub returns-clause-got : goal.returns-clause-got
returns-clause-got c = units.got_is_paid

pub returns-clause-above : goal.returns-clause-above
returns-clause-above c = units.above_water_is_paid

pub returns-clause-outcomes : goal.returns-clause-outcomes
returns-clause-outcomes c = units.outcomes_are_units
