use Rattle.std.proofs.Common.{◌≡◌, map}
use Rattle.offer_header.proofs.limits.take_roles.Given as goal

abbrev pub invariant-loop-party : goal.invariant-loop-party
invariant-loop-party l = l.list.items ≡ map (λ p. p.role) l.yielded
