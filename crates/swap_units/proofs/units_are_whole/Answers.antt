use Rattle.swap_units.proofs.Units as units
use Rattle.swap_units.proofs.units_are_whole.Goals as goal

pub returns-clause-watchful : goal.returns-clause-watchful
returns-clause-watchful c = units.watchful_is_whole

pub returns-clause-safe : goal.returns-clause-safe
returns-clause-safe c = units.safe_is_whole

pub returns-clause-unpublished : goal.returns-clause-unpublished
returns-clause-unpublished c = units.unpublished_is_whole
