use Rattle.std.proofs.Common.{◌≡◌, [], map, drop}
use Rattle.swap_base.specs.Fault.{steps}
use Rattle.offer_header.specs.Names.{leader_step}
use Rattle.offer_header.proofs.names.number_leaders.Given as goal

abbrev pub invariant-loop-leader : goal.invariant-loop-leader
invariant-loop-leader l = steps (leader_step l.line (map (λ k. k.now) l.names.keys)) (l.numbers.items) (drop l.leader-index l.leaders) ≡ steps
    (leader_step l.line (map (λ k. k.now) l.names.keys)) [] l.leaders
