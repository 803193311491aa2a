use Rattle.std.proofs.Common.{◌≡◌, ◌-◌, length}
use Rattle.std.specs.List.{range_with_len}
use Rattle.swap_base.specs.Lists.{first_given_answer}
use Rattle.swap_digraph.specs.Graph.{arcs}
use Rattle.swap_offer.specs.Checks.{wrong_timelock}
use Rattle.swap_offer.proofs.checks.first_wrong_timelock.Given as goal

abbrev pub invariant-loop-arc : goal.invariant-loop-arc
invariant-loop-arc l = first_given_answer (wrong_timelock l.header l.graph l.leader) (range_with_len l.arc (length l.graph.arcs - l.arc)) ≡ first_given_answer
    (wrong_timelock l.header l.graph l.leader) (arcs l.graph)
