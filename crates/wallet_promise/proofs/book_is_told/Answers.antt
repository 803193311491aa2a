use Rattle.wallet_promise.proofs.Holding as holding
use Rattle.wallet_promise.proofs.book_is_told.Goals as goal

pub returns-clause-told : goal.returns-clause-told
returns-clause-told c = holding.all_holds_as_told

pub returns-clause-outcomes : goal.returns-clause-outcomes
returns-clause-outcomes c = holding.all_outcomes_are_told

pub returns-clause-needed : goal.returns-clause-needed
returns-clause-needed c = holding.needed_holds_as_told
