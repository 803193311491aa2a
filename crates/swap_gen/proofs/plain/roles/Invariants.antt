use Rattle.std.proofs.Common.{◌≡◌, replicate}
use Rattle.swap_job.specs.declared.job.Role.TheVariants.{Conforming}
use Rattle.swap_gen.proofs.plain.roles.Given as goal

abbrev pub invariant-loop-p : goal.invariant-loop-p
invariant-loop-p l = l.roles.items ≡ replicate l._p Conforming
