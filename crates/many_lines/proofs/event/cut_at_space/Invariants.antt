use Rattle.std.proofs.Common.{◌≡◌, ◌++◌, take, drop}
use Rattle.many_lines.specs.Event.{before_space, after_space}
use Rattle.many_lines.proofs.event.cut_at_space.Given as goal

abbrev pub invariant-loop-i : goal.invariant-loop-i
invariant-loop-i l = record {
  word : before_space l.text ≡ take l.i l.text ++ before_space (drop l.i l.text);
  rest : after_space l.text ≡ after_space (drop l.i l.text);
}
