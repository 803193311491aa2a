use Rattle.swap_rules.proofs.Accepted.{accepted_is_well_sized}
use Rattle.swap_world.proofs.world.World.new.Goals as goal

pub wrong_wallet-requires-clause-sized : goal.wrong_wallet-requires-clause-sized
wrong_wallet-requires-clause-sized c = accepted_is_well_sized c.args.job.now.deal c.requires.accepted

pub fitting-requires-clause-fit : goal.fitting-requires-clause-fit
fitting-requires-clause-fit c = c.wrong_wallet.ensures.fit c.in-None.is
