use Rattle.std.proofs.Common.{◌≡◌, take}
use Rattle.escrow_core.proofs.lock_list.LockList.from_slice.Given as goal

abbrev pub invariant-loop-digest : goal.invariant-loop-digest
invariant-loop-digest l = l.list ≡ take l.digest-index l.digests
