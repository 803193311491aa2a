use Rattle.std.proofs.Common.{◌≡◌, [], map, drop}
use Rattle.swap_base.specs.Fault.{steps}
use Rattle.offer_header.specs.Names.{has_strategy, name_step}
use Rattle.offer_header.proofs.names.add_parties.Given as goal

abbrev pub invariant-loop-party : goal.invariant-loop-party
invariant-loop-party l =
    steps (name_step (has_strategy l.strategies) l.line (map (λ k. k.now) l.all.keys)) (map (λ k. k.now) l.names.keys)
    (drop l.party-index l.parties)
    ≡ steps (name_step (has_strategy l.strategies) l.line (map (λ k. k.now) l.all.keys)) [] l.parties
