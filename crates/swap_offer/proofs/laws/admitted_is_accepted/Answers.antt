use Rattle.swap_offer.proofs.Admitted as admitted
use Rattle.swap_offer.proofs.laws.admitted_is_accepted.Goals as goal

pub returns : goal.returns
returns c = admitted.admitted_is_accepted
