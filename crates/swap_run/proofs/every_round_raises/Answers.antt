use Rattle.swap_run.proofs.Rounds as lemmas
use Rattle.swap_run.proofs.every_round_raises.Goals as goal

pub returns-clause-raise : goal.returns-clause-raise
returns-clause-raise c = lemmas.rounds_raise

pub returns-clause-down : goal.returns-clause-down
returns-clause-down c = lemmas.rounds_count_down

pub returns-clause-good : goal.returns-clause-good
returns-clause-good c = lemmas.rounds_are_good
