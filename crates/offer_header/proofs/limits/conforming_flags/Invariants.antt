use Rattle.std.proofs.Common.{◌≡◌, map, take}
use Rattle.swap_job.specs.Roles.{is_conforming}
use Rattle.offer_header.proofs.limits.conforming_flags.Given as goal

abbrev pub invariant-loop-party : goal.invariant-loop-party
invariant-loop-party l = l.list.items ≡ map (λ p. is_conforming p.role) (take l.party-index l.parties)
