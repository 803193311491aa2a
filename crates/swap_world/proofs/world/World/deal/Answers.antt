use Rattle.swap_rules.proofs.Accepted.{accepted_is_well_sized}
use Rattle.swap_world.proofs.world.World.deal.Goals as goal

pub returns-clause-sized : goal.returns-clause-sized
returns-clause-sized c = accepted_is_well_sized c.self.inside.deal c.self.invariant.ready.accepted
