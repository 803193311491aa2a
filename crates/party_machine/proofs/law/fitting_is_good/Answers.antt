use Rattle.party_machine.proofs.law.fitting_is_good.Goals as goal
use Rattle.party_machine.proofs.Good as good

pub returns : goal.returns
returns c = good.fitting_is_good
