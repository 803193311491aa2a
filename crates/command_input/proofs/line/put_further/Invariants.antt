use Rattle.std.proofs.Common.{◌≡◌, ◌++◌, drop}
use Rattle.swap_base.specs.Text.{lines}
use Rattle.command_input.specs.Line.{comma_named}
use Rattle.command_input.proofs.line.put_further.Given as goal

abbrev pub invariant-loop-p : goal.invariant-loop-p
invariant-loop-p l = l.out.items ++ lines (comma_named l.names) l.p-index (drop l.p-index l.parties) ≡ l.fn.out.items ++ lines
    (comma_named l.names) 0 l.parties
