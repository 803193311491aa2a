use Rattle.std.proofs.Common.{◌≡◌, drop}
use Rattle.command_input.specs.Lines.{is_blank}
use Rattle.command_input.proofs.lines.is_blank.Given as goal

abbrev pub invariant-loop-b : goal.invariant-loop-b
invariant-loop-b l = is_blank (drop l.b-index l.line) ≡ is_blank l.line
