use Rattle.std.proofs.Common.{arith}
use Rattle.conduct_check.specs.Standing.{first_valid}
use Rattle.conduct_check.proofs.ConductLoops.{each_more}
use Rattle.conduct_check.proofs.standing.validity_flags.Goals as goal

pub loop-lock-preserved : goal.loop-lock-preserved
loop-lock-preserved c =
    each_more (first_valid c.args.judged.now) c.loop-lock.valid c.loop-lock.lock c.is_first_valid.result c.loop-lock.invariant.0
    (omega (arith, c.requires.judged.sized.leaders.1)) c.loop-lock.invariant.1 c.is_first_valid.ensures
