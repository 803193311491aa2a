use Rattle.wallet_promise.proofs.Noise as noise
use Rattle.wallet_promise.proofs.LegalCounted as legal
use Rattle.wallet_promise.proofs.refused_is_noise.Goals as goal

pub returns-clause-noise : goal.returns-clause-noise
returns-clause-noise c = noise.refused_is_noise

pub returns-clause-legal : goal.returns-clause-legal
returns-clause-legal c = legal.counted_is_legal

pub returns-clause-told : goal.returns-clause-told
returns-clause-told c = legal.told_is_legal
