use Rattle.wallet_promise.proofs.Again as again
use Rattle.wallet_promise.proofs.Mindful as mindful
use Rattle.wallet_promise.proofs.ToldMindful as told
use Rattle.wallet_promise.proofs.retrying_is_told.Goals as goal

pub returns-clause-told : goal.returns-clause-told
returns-clause-told c = again.retrying_is_told

pub returns-clause-promised : goal.returns-clause-promised
returns-clause-promised c = again.retrying_is_promised

pub returns-clause-watchful : goal.returns-clause-watchful
returns-clause-watchful c = mindful.watchful_is_safe

pub returns-clause-mindful : goal.returns-clause-mindful
returns-clause-mindful c = mindful.retrying_is_safe

pub returns-clause-told_mindful : goal.returns-clause-told_mindful
returns-clause-told_mindful c = told.told_mindful_is_safe
