use Rattle.wallet_promise.proofs.Lives as lives
use Rattle.wallet_promise.proofs.answers_are_told.Goals as goal

pub returns-clause-same : goal.returns-clause-same
returns-clause-same c = lives.answers_are_told

pub returns-clause-heard : goal.returns-clause-heard
returns-clause-heard c = lives.beginnings_are_heard

pub returns-clause-whole : goal.returns-clause-whole
returns-clause-whole c = lives.is_life

pub returns-clause-told : goal.returns-clause-told
returns-clause-told c = lives.is_told_life

pub returns-clause-needed : goal.returns-clause-needed
returns-clause-needed c = lives.is_needed_life

pub returns-clause-given : goal.returns-clause-given
returns-clause-given c = lives.nothing_is_given

pub returns-clause-useless : goal.returns-clause-useless
returns-clause-useless c = lives.nothing_is_called_there
