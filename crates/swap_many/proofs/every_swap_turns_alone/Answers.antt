use Rattle.swap_many.proofs.On as lemmas
use Rattle.swap_many.proofs.every_swap_turns_alone.Goals as goal

pub returns : goal.returns
returns c = lemmas.turns_are_on
