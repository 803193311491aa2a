use Rattle.swap_world.proofs.Ledgers.{legal_book}
use Rattle.swap_world.proofs.world.World.into_ledgers.Goals as goal

pub returns-clause-legal : goal.returns-clause-legal
returns-clause-legal c = rw (← c.self.view_is) (legal_book c.self.inside.deal c.self.inside.ledgers.items c.self.invariant.ledgers)

pub returns-clause-kept : goal.returns-clause-kept
returns-clause-kept c = rw (← c.self.view_is) c.self.invariant.kept
