use Rattle.std.proofs.Common.{◌+◌}
use Rattle.swap_io.proofs.Feeds.{cut_none, cut_some}
use Rattle.swap_io.proofs.ByteLaws.{whole}
use Rattle.swap_io.proofs.lines.cut.Goals as goal

pub returns-in-Some : goal.returns-in-Some
returns-in-Some c = rw (whole (c.in-Some.at + 1) c.args.bytes.now) (cut_some c.args.bytes.now c.in-Some.at c.in-Some.ensures.0 c.in-Some.ensures.1)

pub returns-in-None : goal.returns-in-None
returns-in-None c = cut_none c.args.bytes.now c.in-None.ensures
