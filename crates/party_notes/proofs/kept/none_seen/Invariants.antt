use Rattle.std.proofs.Common.{◌≡◌, replicate}
use Rattle.party_notes.proofs.kept.none_seen.Given as goal

abbrev pub invariant-arcs : goal.invariant-arcs
invariant-arcs l = l.seen.items ≡ replicate l._arc 0
