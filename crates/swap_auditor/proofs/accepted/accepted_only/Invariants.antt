use Rattle.std.proofs.Common.{◌≡◌, take}
use Rattle.swap_auditor.specs.Accepted.{accepted_only}
use Rattle.swap_auditor.proofs.accepted.accepted_only.Given as goal

abbrev pub invariant-loop-list : goal.invariant-loop-list
invariant-loop-list l = l.histories.items ≡ accepted_only (take l.list-index l.book.histories)
