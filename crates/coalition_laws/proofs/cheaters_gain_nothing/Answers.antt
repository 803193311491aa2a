use Rattle.coalition_laws.proofs.Coalition as coalition
use Rattle.coalition_laws.proofs.cheaters_gain_nothing.Goals as goal

pub returns-clause-together : goal.returns-clause-together
returns-clause-together c = coalition.cheaters_gain_nothing

pub returns-clause-alone : goal.returns-clause-alone
returns-clause-alone c = coalition.cheater_gains_nothing

pub returns-clause-all : goal.returns-clause-all
returns-clause-all c = coalition.unharmed_trade_all_or_nothing
