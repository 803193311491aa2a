use Rattle.wallet_promise.proofs.Lives as lives
use Rattle.wallet_promise.proofs.told_life_conducts.Goals as goal

pub returns-clause-legal : goal.returns-clause-legal
returns-clause-legal c = lives.told_is_legal

pub returns-clause-conducts : goal.returns-clause-conducts
returns-clause-conducts c = lives.told_life_conducts

pub returns-clause-safe : goal.returns-clause-safe
returns-clause-safe c = lives.told_life_is_safe

pub returns-clause-attentive : goal.returns-clause-attentive
returns-clause-attentive c = lives.told_attentive_is_safe

pub returns-clause-watchful : goal.returns-clause-watchful
returns-clause-watchful c = lives.told_watchful_is_safe
