use Rattle.coalition_laws.proofs.Coalition as coalition
use Rattle.coalition_laws.proofs.coalitions_gain_nothing.Goals as goal

pub returns-clause-gains : goal.returns-clause-gains
returns-clause-gains c = coalition.coalitions_gain_nothing

pub returns-clause-paid : goal.returns-clause-paid
returns-clause-paid c = coalition.payers_are_paid

pub returns-clause-pays : goal.returns-clause-pays
returns-clause-pays c = coalition.receivers_pay

pub returns-clause-got : goal.returns-clause-got
returns-clause-got c = coalition.got_is_triggered
