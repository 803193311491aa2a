use Rattle.swap_many.proofs.Dealt.{every_fair_swap_is_dealt}
use Rattle.swap_many.proofs.every_fair_swap_is_dealt.Goals as goal

pub returns : goal.returns
returns c = every_fair_swap_is_dealt
