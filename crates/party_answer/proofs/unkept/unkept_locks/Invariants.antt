use Rattle.std.proofs.Common.{◌≡◌, take}
use Rattle.party_answer.specs.Unkept.{unkept_locks}
use Rattle.party_answer.proofs.unkept.unkept_locks.Given as goal

abbrev pub invariant-loop-unkept : goal.invariant-loop-unkept
invariant-loop-unkept l = l.locks.items ≡ unkept_locks (take l.unkept-index l.list)
