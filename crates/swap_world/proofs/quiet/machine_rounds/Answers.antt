use Rattle.std.proofs.Common.{arith}
use Rattle.swap_world.proofs.quiet.machine_rounds.Goals as goal

pub returns-in-None-clause-calm : goal.returns-in-None-clause-calm
returns-in-None-clause-calm c = λ l. absurd (omega (arith, l))

pub returns-in-Some-clause-calm : goal.returns-in-Some-clause-calm
returns-in-Some-clause-calm c = λ l. record { until = c.in-Some.until; rests = c.in-Some.ensures.at_rest; low = c.bounded_rounds.ensures.low l }
