use Rattle.std.proofs.Common.{◌≡◌, map, drop}
use Rattle.offer_moves.specs.Lists.{collected_results}
use Rattle.swap_clear.specs.Names.{numbered_arc}
use Rattle.offer_moves.proofs.Lists.{with_front}
use Rattle.swap_clear.proofs.names.numbered_arcs.Given as goal

abbrev pub invariant-loop-arc : goal.invariant-loop-arc
invariant-loop-arc l = with_front l.list.items (collected_results (numbered_arc l.line (map (λ k. k.now) l.names.keys)) (drop l.arc-index l.arcs)) ≡ collected_results
    (numbered_arc l.line (map (λ k. k.now) l.names.keys)) l.arcs
