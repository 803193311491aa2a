use Rattle.swap_run.proofs.Good as lemmas
use Rattle.swap_run.proofs.Acts as acts
use Rattle.swap_run.proofs.every_state_is_good.Goals as goal

pub returns-clause-start : goal.returns-clause-start
returns-clause-start c = lemmas.start_is_good

pub returns-clause-steps : goal.returns-clause-steps
returns-clause-steps c = lemmas.steps_are_good

pub returns-clause-calls : goal.returns-clause-calls
returns-clause-calls c = acts.due_calls_can_be_made
