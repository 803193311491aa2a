use Rattle.std.proofs.Common.{arith}
use Rattle.hashkey_path.proofs.Paths.{last_is-get_or}
use Rattle.hashkey_path.proofs.path.last_is.Goals as goal

pub returns-in-len1-up : goal.returns-in-len1-up
returns-in-len1-up c = last_is-get_or c.args.v c.args.path.now (omega arith)
