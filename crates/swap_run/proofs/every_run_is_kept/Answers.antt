use Rattle.swap_run.proofs.Good as lemmas
use Rattle.swap_run.proofs.every_run_is_kept.Goals as goal

pub returns-clause-states : goal.returns-clause-states
returns-clause-states c = lemmas.good_is_kept

pub returns-clause-runs : goal.returns-clause-runs
returns-clause-runs c = lemmas.runs_are_kept

pub returns-clause-signed : goal.returns-clause-signed
returns-clause-signed c = lemmas.unlocks_are_signed
