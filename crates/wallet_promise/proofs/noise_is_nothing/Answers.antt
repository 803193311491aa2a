use Rattle.wallet_promise.proofs.Saying as saying
use Rattle.wallet_promise.proofs.Telling as telling
use Rattle.wallet_promise.proofs.Merging as merging
use Rattle.wallet_promise.proofs.noise_is_nothing.Goals as goal

pub returns-clause-due : goal.returns-clause-due
returns-clause-due c = λ d v w signed k h s. saying.same_due d v k h s w signed

pub returns-clause-told : goal.returns-clause-told
returns-clause-told c = telling.says_telling

pub returns-clause-ticks : goal.returns-clause-ticks
returns-clause-ticks c = merging.ticks_may_be_merged

pub returns-clause-rests : goal.returns-clause-rests
returns-clause-rests c = λ d v k h s. saying.same_rest d v k h s
