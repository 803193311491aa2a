use Rattle.std.proofs.Common.{◌≡◌, map, drop}
use Rattle.offer_moves.specs.Lists.{collected_results}
use Rattle.offer_header.specs.Names.{named_ends}
use Rattle.offer_moves.proofs.Lists.{with_front}
use Rattle.offer_header.proofs.names.resolve_all_ends.Given as goal

abbrev pub invariant-loop-arc : goal.invariant-loop-arc
invariant-loop-arc l = with_front l.list.items (collected_results (named_ends l.line (map (λ k. k.now) l.names.keys)) (drop l.arc-index l.arcs)) ≡ collected_results
    (named_ends l.line (map (λ k. k.now) l.names.keys)) l.arcs
