use Rattle.std.proofs.Common.{length}
use Rattle.conduct_check.proofs.forged.+has_forged_suffix.Given as goal

abbrev pub decreases-has_forged_suffix : goal.decreases-has_forged_suffix
decreases-has_forged_suffix l = length l.path.now
