use Rattle.swap_rules.proofs.Rounds as lemmas
use Rattle.swap_rules.proofs.laws.rounds_are_in_time.Goals as goal

pub returns-clause-in_time : goal.returns-clause-in_time
returns-clause-in_time c = lemmas.rounds_in_time

pub returns-clause-on_time : goal.returns-clause-on_time
returns-clause-on_time c = lemmas.rounds_on_time

pub returns-clause-races : goal.returns-clause-races
returns-clause-races c = lemmas.races_in_time
