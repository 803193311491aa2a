use Rattle.wallet_promise.proofs.Landing as landing
use Rattle.wallet_promise.proofs.answered_is_accepted.Goals as goal

pub returns-clause-unlocks : goal.returns-clause-unlocks
returns-clause-unlocks c = landing.answered_is_accepted

pub returns-clause-publishes : goal.returns-clause-publishes
returns-clause-publishes c = landing.answered_opens
