use Rattle.party_judge.proofs.Harmless as harmless
use Rattle.party_judge.proofs.laws.harmless_is_useless.Goals as goal

pub returns-clause-weighed : goal.returns-clause-weighed
returns-clause-weighed c = harmless.harmless_is_useless

pub returns-clause-publishes : goal.returns-clause-publishes
returns-clause-publishes c = harmless.only_publishes_are_harmless
