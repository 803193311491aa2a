use Rattle.wallet_promise.proofs.Enough as enough
use Rattle.wallet_promise.proofs.Needed as needed_history
use Rattle.wallet_promise.proofs.Ticks as ticks
use Rattle.wallet_promise.proofs.enough_is_told.Goals as goal

pub returns-clause-due : goal.returns-clause-due
returns-clause-due c = λ d v w signed k h s. enough.same_due d v k h s w signed

pub returns-clause-useful : goal.returns-clause-useful
returns-clause-useful c = λ d v at w signed k h s. enough.same_useful d v k h s at w signed

pub returns-clause-presses : goal.returns-clause-presses
returns-clause-presses c = λ d v at w signed k h s. enough.same_pressing d v k h s at w signed

pub returns-clause-rests : goal.returns-clause-rests
returns-clause-rests c = enough.same_rest

pub returns-clause-merged : goal.returns-clause-merged
returns-clause-merged c = ticks.merged_says_enough

pub returns-clause-needed : goal.returns-clause-needed
returns-clause-needed c = needed_history.needed_says_enough

pub returns-clause-useless : goal.returns-clause-useless
returns-clause-useless c = needed_history.useless_is_ticks
