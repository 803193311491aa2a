-- The limits of a line of wishes, and the wishes that it gives.
use Rattle.std.specs.Prelude.{ℕ, ◌^◌, ◌<◌, ◌≤◌, List, codes, length, slice_index_or, Result, Ok}
use Rattle.swap_base.specs.Fault.{◌>>=◌}
use Rattle.command_input.specs.declared.reason.Reason.{Reason}
use Rattle.offer_moves.specs.Fields.{parse_data}
use Rattle.offer_moves.specs.FieldLimits.{ranged_number, check_range}
use Rattle.offer_moves.specs.Lists.{collected_results}
use Rattle.offer_header.specs.Names.{AreNames}
use Rattle.swap_clear.specs.Ready.{AreAmounts}
use Rattle.swap_clear.specs.declared.proposed.Proposed.{Proposed}
use Rattle.swap_clear.specs.Fields.{raw_wishes}
use Rattle.swap_clear.specs.Names.{numbered_wishes}
use Rattle.swap_clear.specs.declared.fields.RawWishes.{RawWishes}
use Rattle.swap_clear.specs.declared.names.Numbered.{Numbered}
use Rattle.swap_clear.specs.declared.names.NumberedArc.{NumberedArc}
use Rattle.swap_clear.specs.declared.limits.Wishes.{Wishes}

-- a proposed transfer
unfoldable pub proposed_arc : ℕ → NumberedArc → Result Proposed Reason
proposed_arc line a = do
  u ← check_range line (codes "amount") 1 (10 ^ 12) a.amount
  Ok (record { from = a.ends.from; to = a.ends.to; amount = a.amount })

-- the start and delta
unfoldable pub limited_times : ℕ → RawWishes → Result (ℕ × ℕ) Reason
limited_times line w = do
  start ← ranged_number line (codes "start") 1 1000 w.start
  delta ← ranged_number line (codes "delta") 1 100 w.delta
  Ok (start, delta)

-- the lengths of the lists, and then each arc
unfoldable pub limited_proposals : ℕ → Numbered → Result (List Proposed) Reason
limited_proposals line numbered = do
  u ← check_range line (codes "parties") 2 32 (length numbered.names)
  v ← check_range line (codes "arcs") 1 128 (length numbered.arcs)
  collected_results (proposed_arc line) numbered.arcs

-- the wishes that fields give: the names first, and then the limits
unfoldable pub parse_wishes : ℕ → RawWishes → Result Wishes Reason
parse_wishes line w = do
  numbered ← numbered_wishes line w
  times ← limited_times line w
  arcs ← limited_proposals line numbered
  Ok (record { start = times.0; delta = times.1; names = numbered.names; arcs = arcs })

-- the wishes that a line gives, or the first reason why it is refused
unfoldable pub parse_wish_text : ℕ → List ℕ → Result Wishes Reason
parse_wish_text line text = do
  object ← parse_data line text
  raw ← raw_wishes line object
  parse_wishes line raw

-- Wishes within their limits.
pub record AreWishesInLimits (w : Wishes) : Type 0 where
  pub start : (1 ≤ w.start) × (w.start ≤ 1000)
  pub delta : (1 ≤ w.delta) × (w.delta ≤ 100)
  pub parties : (2 ≤ length w.names) × (length w.names ≤ 32)
  pub names : AreNames w.names
  pub arcs : (1 ≤ length w.arcs) × (length w.arcs ≤ 128)
  pub from : (a : ℕ) (d : Proposed) → a < length w.arcs → (slice_index_or w.arcs a d).from < length w.names
  pub to : (a : ℕ) (d : Proposed) → a < length w.arcs → (slice_index_or w.arcs a d).to < length w.names
  pub amounts : AreAmounts w.arcs
