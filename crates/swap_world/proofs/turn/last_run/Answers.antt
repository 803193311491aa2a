use Rattle.ledger_core.proofs.Ticks.{last_ticks}
use Rattle.swap_world.proofs.turn.last_run.Goals as goal

pub returns-clause-ticks : goal.returns-clause-ticks
returns-clause-ticks c = last_ticks c.args.run c.args.n c.requires.within
