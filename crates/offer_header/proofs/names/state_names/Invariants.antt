use Rattle.std.proofs.Common.{◌≡◌, map, take}
use Rattle.offer_header.specs.Names.{names_stated}
use Rattle.offer_header.proofs.names.state_names.Given as goal

abbrev pub invariant-loop-party : goal.invariant-loop-party
invariant-loop-party l = map (λ k. k.now) l.names.keys ≡ names_stated (take l.party-index l.parties)
