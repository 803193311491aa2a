use Rattle.std.proofs.Common.{length}
use Rattle.hashkey_path.proofs.suffix.+wrong_signature.Given as goal

abbrev pub decreases-wrong_signature : goal.decreases-wrong_signature
decreases-wrong_signature l = length l.suffix.now.path.now
