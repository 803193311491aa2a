use Rattle.swap_gen.proofs.Generated.{held_is_accepted, held_is_owned}
use Rattle.swap_gen.proofs.generator.Generator.into_job.Goals as goal

pub returns-clause-accepted : goal.returns-clause-accepted
returns-clause-accepted c = held_is_accepted c.self.inside c.self.invariant

pub returns-clause-owned : goal.returns-clause-owned
returns-clause-owned c = held_is_owned c.self.inside c.self.invariant
