use Rattle.std.proofs.Common.{arith}
use Rattle.conduct_check.specs.Standing.{first_origin}
use Rattle.conduct_check.proofs.ConductLoops.{each_more}
use Rattle.conduct_check.proofs.standing.key_origins.Goals as goal

pub loop-lock-preserved : goal.loop-lock-preserved
loop-lock-preserved c =
    each_more (first_origin c.args.judged.now) c.loop-lock.origins c.loop-lock.lock c.has_first_origin.result c.loop-lock.invariant.0
    (omega (arith, c.requires.sized.leaders.1)) c.loop-lock.invariant.1 c.has_first_origin.ensures
