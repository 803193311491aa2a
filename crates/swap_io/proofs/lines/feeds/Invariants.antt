use Rattle.std.proofs.Common.{◌≡◌, ◌+◌, drop}
use Rattle.swap_io.specs.Lines.{feeds}
use Rattle.swap_io.proofs.lines.feeds.Given as goal

abbrev pub invariant-loop-i : goal.invariant-loop-i
invariant-loop-i l = feeds l.bytes ≡ l.i + feeds (drop l.i l.bytes)
