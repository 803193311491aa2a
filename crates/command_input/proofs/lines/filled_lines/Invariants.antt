use Rattle.std.proofs.Common.{◌≡◌, ◌++◌, ◌+◌, ◌≤◌, map, length}
use Rattle.command_input.specs.Lines.{filled_lines, collect_lines}
use Rattle.command_input.proofs.lines.filled_lines.Given as goal

abbrev pub invariant-loop-rest : goal.invariant-loop-rest
invariant-loop-rest l = record {
  lines : map (λ p. (p.0, p.1.now)) l.list.items ++ filled_lines (l.number + 1) (collect_lines l.rest) ≡ filled_lines 1 (collect_lines l.bytes);
  few : l.number + length l.rest ≤ length l.bytes;
  count : length l.list.items ≤ l.number;
}

abbrev pub decreases-loop-rest : goal.decreases-loop-rest
decreases-loop-rest l = length l.rest
