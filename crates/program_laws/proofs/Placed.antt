-- Where a move stands.
use Rattle.std.proofs.Common.{Bool, List, false, slice_index_or, ℕ, ◌==◌, ◌||◌}
use Rattle.std.specs.List.{list_any}
use Rattle.swap_digraph.specs.declared.arc_ends.ArcEnds.{ArcEnds}
use Rattle.swap_digraph.specs.Graph.{resolve_all_ends}
use Rattle.swap_job.specs.declared.moves.Move.{Move}
use Rattle.swap_job.specs.declared.moves.Move.TheVariants.{Craft, Transfer}
use Rattle.swap_job.specs.Resolved.{move_arc}
use Rattle.command_input.specs.declared.reason.Reason.TheVariants.{NotAdjacent, ConformingCall}
use Rattle.offer_moves.specs.Placed.{deviating, adjacent, received, crafted_by_others, placed}
use Rattle.swap_job.specs.declared.moves.Move.TheVariants as move_kinds
use Rattle.program_laws.proofs.Bare.{Bare, onward, landed, refused, choose}

pub deviating_bare : (line : ℕ) (is_conforming : Bool) → Bare (deviating line is_conforming)
unfolding deviating
deviating_bare line is_conforming = choose is_conforming _ _ (refused (ConformingCall line) tt) (landed _)

pub adjacent_bare : (arcs : List ArcEnds) (line : ℕ) (p : ℕ) (a : ℕ) → Bare (adjacent arcs line p a)
unfolding adjacent
adjacent_bare arcs line p a = choose ((p == (resolve_all_ends arcs a).from) || (p == (resolve_all_ends arcs a).to)) _ _ (landed _) (refused
    (NotAdjacent line) tt)

pub received_bare : (arcs : List ArcEnds) (line : ℕ) (x2 : Move) → Bare (received arcs line x2)
received_bare arcs line (Transfer a to units) = adjacent_bare arcs line to a
received_bare arcs line (move_kinds.Publish a1 a2 a3 a4 a5 a6 a7) = landed _
received_bare arcs line (move_kinds.Craft a1 a2 a3 a4) = landed _
received_bare arcs line (move_kinds.Replay a1 a2 a3) = landed _
received_bare arcs line (move_kinds.Raw a1 a2) = landed _
received_bare arcs line (move_kinds.Claim a1) = landed _
received_bare arcs line (move_kinds.Refund a1) = landed _
received_bare arcs line (move_kinds.Wait a1 a2) = landed _

pub crafted_by_others_bare : (conforming : List Bool) (line : ℕ) (x2 : Move) → Bare (crafted_by_others conforming line x2)
crafted_by_others_bare conforming line (Craft a lock via onto) = deviating_bare line (list_any (λ v. slice_index_or conforming v false) via)
crafted_by_others_bare conforming line (move_kinds.Publish a1 a2 a3 a4 a5 a6 a7) = landed _
crafted_by_others_bare conforming line (move_kinds.Replay a1 a2 a3) = landed _
crafted_by_others_bare conforming line (move_kinds.Raw a1 a2) = landed _
crafted_by_others_bare conforming line (move_kinds.Claim a1) = landed _
crafted_by_others_bare conforming line (move_kinds.Refund a1) = landed _
crafted_by_others_bare conforming line (move_kinds.Transfer a1 a2 a3) = landed _
crafted_by_others_bare conforming line (move_kinds.Wait a1 a2) = landed _

pub placed_bare : (arcs : List ArcEnds) (conforming : List Bool) (line : ℕ) (p : ℕ) (mv : Move) → Bare (placed arcs conforming line p mv)
unfolding placed
placed_bare arcs conforming line p mv =
    onward (adjacent arcs line p (move_arc mv)) _ (adjacent_bare arcs line p (move_arc mv))
    (λ u. onward (crafted_by_others conforming line mv) _ (crafted_by_others_bare conforming line mv) (λ w. received_bare arcs line mv))
