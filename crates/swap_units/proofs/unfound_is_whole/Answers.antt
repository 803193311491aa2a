use Rattle.swap_units.proofs.Found as found
use Rattle.swap_units.proofs.unfound_is_whole.Goals as goal

pub returns-clause-paid : goal.returns-clause-paid
returns-clause-paid c = found.unendangered_is_paid

pub returns-clause-whole : goal.returns-clause-whole
returns-clause-whole c = found.unstranded_is_whole
