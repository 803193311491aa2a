use Rattle.swap_run.proofs.Fair as lemmas
use Rattle.swap_run.proofs.a_fair_finish_is_dealt.Goals as goal

pub returns : goal.returns
returns c = lemmas.fair_is_dealt
