use Rattle.std.proofs.Common.{take}
use Rattle.std.specs.List.{flat_map}
use Rattle.swap_base.specs.Text.{joined}
use Rattle.hashkey_path.specs.Digest.{Feeds}
use Rattle.hashkey_path.proofs.digest.feed_rows.Given as goal

abbrev pub invariant-rows : goal.invariant-rows
invariant-rows l = Feeds l.fn.hasher l.hasher (flat_map joined (take l.row-index l.rows))
