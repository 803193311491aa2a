use Rattle.std.proofs.Common.{◌≡◌, ◌++◌, take, drop}
use Rattle.command_input.specs.Lines.{bytes_before_feed, bytes_after_feed}
use Rattle.command_input.proofs.lines.first_line.Given as goal

abbrev pub invariant-loop-i : goal.invariant-loop-i
invariant-loop-i l = record {
  line : bytes_before_feed l.bytes ≡ take l.i l.bytes ++ bytes_before_feed (drop l.i l.bytes);
  rest : bytes_after_feed l.bytes ≡ bytes_after_feed (drop l.i l.bytes);
}
