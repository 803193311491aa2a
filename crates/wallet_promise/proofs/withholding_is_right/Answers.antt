use Rattle.wallet_promise.proofs.Landing as landing
use Rattle.wallet_promise.proofs.withholding_is_right.Goals as goal

pub returns-clause-missed : goal.returns-clause-missed
returns-clause-missed c = landing.missed_is_never_paid

pub returns-clause-lost : goal.returns-clause-lost
returns-clause-lost c = landing.lost_is_enabled
