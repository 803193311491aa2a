use Rattle.clock_promise.proofs.Mindful as mindful
use Rattle.clock_promise.proofs.mindful_is_safe.Goals as goal

pub returns-clause-all : goal.returns-clause-all
returns-clause-all c = mindful.mindful_is_there

pub returns-clause-safe : goal.returns-clause-safe
returns-clause-safe c = mindful.mindful_there_is_safe
