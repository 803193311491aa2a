use Rattle.std.proofs.Common.{◌≡◌, None, replicate}
use Rattle.party_threads.proofs.first_turns.no_places.Given as goal

abbrev pub invariant-arcs : goal.invariant-arcs
invariant-arcs g l = l.places.items ≡ replicate l._arc None
