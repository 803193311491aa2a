use Rattle.std.proofs.Common.{◌≡◌, ◌==◌, ◌++◌, not, filter, drop}
use Rattle.party_notes.proofs.kept.without_arc.Given as goal

abbrev pub invariant-loop-other : goal.invariant-loop-other
invariant-loop-other l =
    filter (λ a. not (a == l.arc)) l.sent ≡ l.left.items ++ filter (λ a. not (a == l.arc)) (drop l.other-index l.sent)
