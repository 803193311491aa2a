use Rattle.wallet_promise.proofs.AllAnswers as all
use Rattle.wallet_promise.proofs.answers_are_whole.Goals as goal

pub returns-clause-go : goal.returns-clause-go
returns-clause-go c = all.all_may_go

pub returns-clause-keep : goal.returns-clause-keep
returns-clause-keep c = all.all_may_be_kept

pub returns-clause-once : goal.returns-clause-once
returns-clause-once c = all.none_is_sent_twice

pub returns-clause-all : goal.returns-clause-all
returns-clause-all c = all.nothing_is_left_out

pub returns-clause-asked : goal.returns-clause-asked
returns-clause-asked c = all.each_key_is_asked

pub returns-clause-useful : goal.returns-clause-useful
returns-clause-useful c = all.all_is_useful

pub returns-clause-rest : goal.returns-clause-rest
returns-clause-rest c = all.rest_is_nothing
