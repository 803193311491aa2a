use Rattle.std.proofs.Common.{◌≡◌, [], map, drop}
use Rattle.swap_base.specs.Fault.{steps}
use Rattle.swap_clear.specs.Names.{wished_name_step}
use Rattle.swap_clear.proofs.names.add_parties.Given as goal

abbrev pub invariant-loop-name : goal.invariant-loop-name
invariant-loop-name l =
    steps (wished_name_step l.line) (map (λ k. k.now) l.names.keys) (drop l.name-index l.parties) ≡ steps (wished_name_step l.line) [] l.parties
