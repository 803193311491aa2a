use Rattle.swap_run.proofs.Swept as lemmas
use Rattle.swap_run.proofs.every_swept_step_is_good.Goals as goal

pub returns-clause-none : goal.returns-clause-none
returns-clause-none c = lemmas.none_swept

pub returns-clause-good : goal.returns-clause-good
returns-clause-good c = lemmas.steps_on_are_good
