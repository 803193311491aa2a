use Rattle.wallet_promise.proofs.Legal as legal
use Rattle.wallet_promise.proofs.Deeds as deeds
use Rattle.wallet_promise.proofs.Funds as funds
use Rattle.wallet_promise.proofs.Merged as merged
use Rattle.wallet_promise.proofs.Short as short
use Rattle.wallet_promise.proofs.ToldBooks as books
use Rattle.wallet_promise.proofs.telling_is_legal.Goals as goal

pub returns-clause-chain : goal.returns-clause-chain
returns-clause-chain c = legal.legal_is_chain

pub returns-clause-legal : goal.returns-clause-legal
returns-clause-legal c = legal.telling_is_legal

pub returns-clause-few : goal.returns-clause-few
returns-clause-few c = deeds.others_are_few

pub returns-clause-balances : goal.returns-clause-balances
returns-clause-balances c = funds.balances_are_told

pub returns-clause-merged : goal.returns-clause-merged
returns-clause-merged c = merged.merged_is_legal

pub returns-clause-short : goal.returns-clause-short
returns-clause-short c = short.telling_is_short

pub returns-clause-book : goal.returns-clause-book
returns-clause-book c = books.book_can_be_told
