use Rattle.std.proofs.Common.{length}
use Rattle.hashkey_path.proofs.path.+is_path.Given as goal

abbrev pub decreases-is_path : goal.decreases-is_path
decreases-is_path l = length l.path.now
