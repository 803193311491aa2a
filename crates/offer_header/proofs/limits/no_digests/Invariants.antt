use Rattle.std.proofs.Common.{◌≡◌, map, take}
use Rattle.offer_header.specs.Limits.{no_digest}
use Rattle.offer_header.proofs.limits.no_digests.Given as goal

abbrev pub invariant-loop-leader : goal.invariant-loop-leader
invariant-loop-leader l = l.list.items ≡ map (λ x. no_digest) (take l._leader-index l.leaders)
