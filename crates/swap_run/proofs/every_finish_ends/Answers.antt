use Rattle.swap_run.proofs.Finish as lemmas
use Rattle.swap_run.proofs.Along as along
use Rattle.swap_run.proofs.Reached as reached
use Rattle.swap_run.proofs.every_finish_ends.Goals as goal

pub returns-clause-end : goal.returns-clause-end
returns-clause-end c = lemmas.finishes_end

pub returns-clause-good : goal.returns-clause-good
returns-clause-good c = lemmas.finishes_are_good

pub returns-clause-stops : goal.returns-clause-stops
returns-clause-stops c = lemmas.finish_stops

pub returns-clause-goes_on : goal.returns-clause-goes_on
returns-clause-goes_on c = lemmas.finish_goes_on

pub returns-clause-run : goal.returns-clause-run
returns-clause-run c = reached.finishes_are_runs

pub returns-clause-heights : goal.returns-clause-heights
returns-clause-heights c = lemmas.finish_heights

pub returns-clause-steps : goal.returns-clause-steps
returns-clause-steps c = along.finish_is_steps
