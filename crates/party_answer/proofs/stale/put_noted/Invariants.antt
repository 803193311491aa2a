use Rattle.std.proofs.Common.{◌≡◌, ◌++◌, take}
use Rattle.party_answer.proofs.stale.put_noted.Given as goal

abbrev pub invariant-loop-lock : goal.invariant-loop-lock
invariant-loop-lock l = l.locks.items ≡ l.initial.locks.items ++ take l.lock-index l.noted
