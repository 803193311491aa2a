use Rattle.std.proofs.Common.{◌≡◌, map, take}
use Rattle.offer_header.specs.Limits.{no_digests}
use Rattle.offer_header.proofs.limits.no_keys.Given as goal

abbrev pub invariant-loop-party : goal.invariant-loop-party
invariant-loop-party l = l.rows.items ≡ map (λ p. no_digests l.leaders) (take l._party-index l.parties)
