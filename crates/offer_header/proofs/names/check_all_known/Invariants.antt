use Rattle.std.proofs.Common.{◌≡◌, map, drop}
use Rattle.swap_base.specs.Fault.{steps}
use Rattle.offer_header.specs.Names.{known_name}
use Rattle.offer_header.proofs.names.check_all_known.Given as goal

abbrev pub invariant-loop-name : goal.invariant-loop-name
invariant-loop-name l = steps (λ u name. known_name l.line (map (λ k. k.now) l.all.keys) name) tt (drop l.name-index l.names) ≡ steps
    (λ u name. known_name l.line (map (λ k. k.now) l.all.keys) name) tt l.names
