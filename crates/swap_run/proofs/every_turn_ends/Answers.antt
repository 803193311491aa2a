use Rattle.swap_run.proofs.Acts as acts
use Rattle.swap_run.proofs.Turns as turns
use Rattle.swap_run.proofs.every_turn_ends.Goals as goal

pub returns-clause-rest : goal.returns-clause-rest
returns-clause-rest c = acts.acts_come_to_rest

pub returns-clause-enough : goal.returns-clause-enough
returns-clause-enough c = acts.acts_are_enough

pub returns-clause-others : goal.returns-clause-others
returns-clause-others c = turns.others_rest

pub returns-clause-good : goal.returns-clause-good
returns-clause-good c = turns.turns_are_good
