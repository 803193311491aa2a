use Rattle.party_judge.proofs.Binding.{binds}
use Rattle.party_judge.proofs.laws.one_digest_one_agreement.Goals as goal

pub returns : goal.returns
returns c = binds
