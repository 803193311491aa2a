use Rattle.std.proofs.Common.{length}
use Rattle.useful_calls.proofs.withheld.+has_revealed.Given as goal

abbrev pub decreases-has_revealed : goal.decreases-has_revealed
decreases-has_revealed l = length l.known.now
