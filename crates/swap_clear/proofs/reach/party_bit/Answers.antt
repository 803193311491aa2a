use Rattle.leader_check.proofs.Passes.{one_bit}
use Rattle.swap_clear.proofs.reach.party_bit.Goals as goal

pub returns : goal.returns
returns c w = one_bit c.args.v w c.requires
