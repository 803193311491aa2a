use Rattle.std.proofs.Common.{◌≡◌, drop}
use Rattle.offer_moves.specs.Lists.{collected_results}
use Rattle.offer_moves.proofs.Lists.{with_front}
use Rattle.swap_clear.specs.Limits.{proposed_arc}
use Rattle.swap_clear.proofs.limits.each_proposed.Given as goal

abbrev pub invariant-loop-arc : goal.invariant-loop-arc
invariant-loop-arc l = with_front l.list.items (collected_results (proposed_arc l.line) (drop l.arc-index l.arcs)) ≡ collected_results (proposed_arc l.line) l.arcs
