-- Whether a party may make a move where it stands.
use Rattle.std.specs.Prelude.{◌==◌, ◌||◌, ℕ, Bool, false, List, slice_index_or, if◌then◌else◌, Result, Ok, Err}
use Rattle.std.specs.List.{list_any}
use Rattle.swap_base.specs.Fault.{◌>>=◌}
use Rattle.swap_digraph.specs.declared.arc_ends.ArcEnds.{ArcEnds}
use Rattle.swap_digraph.specs.Graph.{resolve_all_ends}
use Rattle.swap_job.specs.declared.moves.Move.{Move}
use Rattle.swap_job.specs.declared.moves.Move.TheVariants.{Craft, Transfer}
use Rattle.swap_job.specs.Resolved.{move_arc}
use Rattle.command_input.specs.declared.reason.Reason.{Reason}
use Rattle.command_input.specs.declared.reason.Reason.TheVariants.{NotAdjacent, ConformingCall}

-- a conforming party makes no call by hand
unfoldable pub deviating : ℕ → Bool → Result (Unit {0}) Reason
deviating line is_conforming = if is_conforming then Err (ConformingCall line) else Ok tt

-- p is one of the arc's two parties
unfoldable pub adjacent : List ArcEnds → ℕ → ℕ → ℕ → Result (Unit {0}) Reason
adjacent arcs line p a = if (p == (resolve_all_ends arcs a).from) || (p == (resolve_all_ends arcs a).to) then Ok tt else Err (NotAdjacent line)

-- who gets units is one of the arc's two parties
abbrev pub received : List ArcEnds → ℕ → Move → Result (Unit {0}) Reason
received arcs line (Transfer a to units) = adjacent arcs line to a
received arcs line _ = Ok tt

-- no party that crafts a hashkey conforms
abbrev pub crafted_by_others : List Bool → ℕ → Move → Result (Unit {0}) Reason
crafted_by_others conforming line (Craft a lock via onto) = deviating line (list_any (λ v. slice_index_or conforming v false) via)
crafted_by_others conforming line _ = Ok tt

-- p may make the move where it stands: first its own arc, then who crafts, then who gets units
unfoldable pub placed : List ArcEnds → List Bool → ℕ → ℕ → Move → Result (Unit {0}) Reason
placed arcs conforming line p mv = do
  u ← adjacent arcs line p (move_arc mv)
  w ← crafted_by_others conforming line mv
  received arcs line mv
