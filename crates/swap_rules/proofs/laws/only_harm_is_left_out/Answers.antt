use Rattle.swap_rules.proofs.EarlyUseful as early
use Rattle.swap_rules.proofs.Useful as useful
use Rattle.swap_rules.proofs.laws.only_harm_is_left_out.Goals as goal

pub returns-clause-due : goal.returns-clause-due
returns-clause-due c = useful.useful_is_due

pub returns-clause-harm : goal.returns-clause-harm
returns-clause-harm c = useful.only_harm_is_left_out

pub returns-clause-early : goal.returns-clause-early
returns-clause-early c = early.early_is_useful

pub returns-clause-presses : goal.returns-clause-presses
returns-clause-presses c = useful.nothing_useful_presses

pub returns-clause-ticks : goal.returns-clause-ticks
returns-clause-ticks c = useful.ticks_make_nothing_useful

pub returns-clause-higher : goal.returns-clause-higher
returns-clause-higher c = useful.higher_is_less

pub returns-clause-taken : goal.returns-clause-taken
returns-clause-taken c = useful.taken_is_useful
