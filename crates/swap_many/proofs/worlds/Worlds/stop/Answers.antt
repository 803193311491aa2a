use Rattle.swap_many.specs.Inside.{inside_worlds}
use Rattle.swap_many.proofs.Values.{stopped_whole}
use Rattle.swap_many.proofs.worlds.Worlds.stop.Goals as goal

pub invariant_of-self : goal.invariant_of-self
invariant_of-self c = record { whole = stopped_whole (inside_worlds c.self.inside) c.self.invariant.whole; on = c.self.invariant.on }
