use Rattle.std.proofs.Common.{◌≡◌, replicate, None}
use Rattle.party_notes.proofs.kept.none_kept.Given as goal

abbrev pub invariant-locks : goal.invariant-locks
invariant-locks l = l.keys.items ≡ replicate l._lock None
