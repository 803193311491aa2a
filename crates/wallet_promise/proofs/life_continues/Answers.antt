use Rattle.wallet_promise.proofs.Onward as onward
use Rattle.wallet_promise.proofs.life_continues.Goals as goal

pub returns-clause-begins : goal.returns-clause-begins
returns-clause-begins c = onward.life_begins

pub returns-clause-others : goal.returns-clause-others
returns-clause-others c = onward.others_go_on

pub returns-clause-asks : goal.returns-clause-asks
returns-clause-asks c = onward.asking_continues

pub returns-clause-lands : goal.returns-clause-lands
returns-clause-lands c = onward.calls_land
