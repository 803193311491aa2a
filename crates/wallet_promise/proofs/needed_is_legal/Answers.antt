use Rattle.wallet_promise.proofs.Ticks as ticks
use Rattle.wallet_promise.proofs.needed_is_legal.Goals as goal

pub returns-clause-chain : goal.returns-clause-chain
returns-clause-chain c = ticks.chain_is_needed

pub returns-clause-legal : goal.returns-clause-legal
returns-clause-legal c = ticks.needed_is_legal

pub returns-clause-short : goal.returns-clause-short
returns-clause-short c = ticks.needed_is_short

pub returns-clause-book : goal.returns-clause-book
returns-clause-book c = ticks.needed_can_be_told
