use Rattle.std.proofs.Common.{length, ◌-◌, ◌≤◌}
use Rattle.swap_auditor.proofs.found.shared_vertices.Given as goal

abbrev pub invariant-loop-n : goal.invariant-loop-n
invariant-loop-n l = (l.n ≤ length l.one) × (l.n ≤ length l.other)

abbrev pub decreases-loop-n : goal.decreases-loop-n
decreases-loop-n l = length l.one - l.n
