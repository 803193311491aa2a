use Rattle.swap_run.proofs.Calls as lemmas
use Rattle.swap_run.proofs.every_event_splits.Goals as goal

pub returns-clause-split : goal.returns-clause-split
returns-clause-split c = lemmas.calls_split

pub returns-clause-placed : goal.returns-clause-placed
returns-clause-placed c = lemmas.calls_are_placed

pub returns-clause-passed : goal.returns-clause-passed
returns-clause-passed c = lemmas.passed_is_good
