use Rattle.std.proofs.Common.{◌≡◌, ◌++◌, drop}
use Rattle.swap_base.specs.Text.{lines}
use Rattle.run_texts.specs.Texts.{digest_after_space}
use Rattle.run_texts.proofs.words.put_locks.Given as goal

abbrev pub invariant-loop-lock : goal.invariant-loop-lock
invariant-loop-lock l = l.out.items ++ lines digest_after_space l.lock (drop l.lock l.locks) ≡ l.fn.out.items ++ lines digest_after_space 0 l.locks
