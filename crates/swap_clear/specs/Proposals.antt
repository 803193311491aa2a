-- The digraph of proposed transfers, or the least one's first fault.
use Rattle.std.specs.Prelude.{◌==◌, ◌&&◌, ℕ, ◌+◌, not, nat_lt, List, [], ◌∷◌, map, Option, Some, None, Result, Ok, Err, if◌then◌else◌}
use Rattle.swap_base.specs.Lists.{or_else}
use Rattle.swap_digraph.specs.declared.arc_ends.ArcEnds.{ArcEnds}
use Rattle.swap_digraph.specs.Value.{Graph}
use Rattle.swap_clear.specs.declared.proposed.Proposed.{Proposed}
use Rattle.swap_clear.specs.declared.fault.ClearReason.{ClearReason}
use Rattle.swap_clear.specs.declared.fault.ClearReason.TheVariants.{OutOfRange, SelfArc}

abbrev pub resolve_arc_ends : Proposed → ArcEnds
resolve_arc_ends p = record { from = p.from; to = p.to }

-- the digraph of n parties whose arcs are the proposals
abbrev pub proposed_graph : ℕ → List Proposed → Graph
proposed_graph n arcs = record { n = n; arcs = map resolve_arc_ends arcs }

-- the first fault of proposal k
abbrev pub proposal_fault : ℕ → ℕ → Proposed → Option ClearReason
proposal_fault n k p =
    if not (nat_lt p.from n && nat_lt p.to n) then Some (OutOfRange k)
    else if p.from == p.to then Some (SelfArc k)
    else None

-- the first fault of the least proposal that has one, by number from k on
unfoldable pub first_proposal_fault : ℕ → ℕ → List Proposed → Option ClearReason
first_proposal_fault n k [] = None
first_proposal_fault n k (p ∷ arcs) = or_else (proposal_fault n k p) (first_proposal_fault n (k + 1) arcs)

abbrev pub graph_unless : Graph → Option ClearReason → Result Graph ClearReason
graph_unless g None = Ok g
graph_unless g (Some reason) = Err reason

unfoldable pub proposals_graph : ℕ → List Proposed → Result Graph ClearReason
proposals_graph n arcs = graph_unless (proposed_graph n arcs) (first_proposal_fault n 0 arcs)
