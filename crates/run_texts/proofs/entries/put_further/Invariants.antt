use Rattle.std.proofs.Common.{◌≡◌, ◌++◌, drop}
use Rattle.swap_base.specs.Text.{lines}
use Rattle.run_texts.specs.Words.{comma_name}
use Rattle.run_texts.proofs.entries.put_further.Given as goal

abbrev pub invariant-loop-p : goal.invariant-loop-p
invariant-loop-p l = l.out.items ++ lines (comma_name l.names) l.p-index (drop l.p-index l.path) ≡ l.fn.out.items ++ lines (comma_name l.names) 0 l.path
