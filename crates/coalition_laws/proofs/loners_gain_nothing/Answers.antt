use Rattle.coalition_laws.proofs.Coalition as coalition
use Rattle.coalition_laws.proofs.loners_gain_nothing.Goals as goal

pub returns-clause-alone : goal.returns-clause-alone
returns-clause-alone c = coalition.loners_gain_nothing

pub returns-clause-all : goal.returns-clause-all
returns-clause-all c = coalition.all_or_nothing
