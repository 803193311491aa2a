use Rattle.wallet_promise.proofs.Walking as walking
use Rattle.wallet_promise.proofs.Mindful as mindful
use Rattle.wallet_promise.proofs.Timely as timely
use Rattle.wallet_promise.proofs.walking_away_is_safe.Goals as goal

pub returns-clause-safe : goal.returns-clause-safe
returns-clause-safe c = walking.watchful_life_is_safe

pub returns-clause-mindful : goal.returns-clause-mindful
returns-clause-mindful c = mindful.mindful_is_safe

pub returns-clause-timely : goal.returns-clause-timely
returns-clause-timely c = timely.timely_is_safe

pub returns-clause-stops : goal.returns-clause-stops
returns-clause-stops c = timely.may_stop_publishing
