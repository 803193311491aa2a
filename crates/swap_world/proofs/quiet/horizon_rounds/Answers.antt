use Rattle.std.proofs.Common.{arith}
use Rattle.swap_world.proofs.quiet.horizon_rounds.Goals as goal

pub returns-then-is_empty-clause-some : goal.returns-then-is_empty-clause-some
returns-then-is_empty-clause-some c = λ l. absurd (omega (arith, l))

pub returns-then-is_empty-clause-low : goal.returns-then-is_empty-clause-low
returns-then-is_empty-clause-low c = λ l. absurd (omega (arith, l))
