use Rattle.std.proofs.Common.{◌≡◌, take}
use Rattle.swap_auditor.specs.Accepted.{accepted_calls}
use Rattle.swap_auditor.proofs.accepted.accepted_entries.Given as goal

abbrev pub invariant-loop-entry : goal.invariant-loop-entry
invariant-loop-entry l = l.accepted ≡ accepted_calls (take l.entry-index l.entry-items)
