use Rattle.swap_units.proofs.Heights as heights
use Rattle.swap_units.proofs.units_come_by.Goals as goal

pub returns-clause-by : goal.returns-clause-by
returns-clause-by c = heights.on_time_has_units_by

pub returns-clause-whole : goal.returns-clause-whole
returns-clause-whole c = heights.on_time_is_whole
