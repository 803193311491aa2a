use Rattle.swap_rules.proofs.Forging as lemmas
use Rattle.swap_rules.proofs.laws.nothing_is_forged.Goals as goal

pub returns : goal.returns
returns c = lemmas.nothing_is_forged
