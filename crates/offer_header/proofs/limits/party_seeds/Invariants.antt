use Rattle.std.proofs.Common.{◌≡◌, map, take}
use Rattle.offer_header.proofs.limits.party_seeds.Given as goal

abbrev pub invariant-loop-party : goal.invariant-loop-party
invariant-loop-party l = l.list.items ≡ map (λ p. p.seed) (take l.party-index l.parties)
