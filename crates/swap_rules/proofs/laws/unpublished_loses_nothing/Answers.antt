use Rattle.swap_rules.proofs.Walking as walking
use Rattle.swap_rules.proofs.laws.unpublished_loses_nothing.Goals as goal

pub returns-clause-nothing : goal.returns-clause-nothing
returns-clause-nothing c = walking.unpublished_loses_nothing

pub returns-clause-silent : goal.returns-clause-silent
returns-clause-silent c = walking.silent_loses_nothing

pub returns-clause-unrevealed : goal.returns-clause-unrevealed
returns-clause-unrevealed c = walking.unrevealed_loses_nothing
