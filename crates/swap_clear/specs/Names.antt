-- The names of a line of wishes, and the numbers that stand for them.
use Rattle.std.specs.Prelude.{ℕ, ◌<◌, List, [], length, slice_index_or, None, Result, Ok}
use Rattle.swap_base.specs.Fault.{◌>>=◌, steps}
use Rattle.command_input.specs.declared.reason.Reason.{Reason}
use Rattle.offer_moves.specs.Lists.{collected_results}
use Rattle.offer_header.specs.Names.{named_ends, name_added}
use Rattle.offer_header.specs.declared.raw.RawActor.TheVariants.{Conforming}
use Rattle.offer_header.specs.declared.raw.RawParty.{RawParty}
use Rattle.offer_header.specs.declared.raw.RawArc.{RawArc}
use Rattle.swap_clear.specs.declared.fields.RawWishes.{RawWishes}
use Rattle.swap_clear.specs.declared.names.Numbered.{Numbered}
use Rattle.swap_clear.specs.declared.names.NumberedArc.{NumberedArc}

-- the party of that name in a header
abbrev pub header_party : List ℕ → RawParty
header_party name = record { name = name; actor = Conforming; seed = None }

-- one more name, as in a header
abbrev pub wished_name_step : ℕ → List (List ℕ) → List ℕ → Result (List (List ℕ)) Reason
wished_name_step line names name = name_added line names (header_party name)

-- an arc by its parties' numbers
unfoldable pub numbered_arc : ℕ → List (List ℕ) → RawArc → Result NumberedArc Reason
numbered_arc line names a = do
  ends ← named_ends line names a
  Ok (record { ends = ends; amount = a.amount })

-- the names in their order, then the ends of the arcs
unfoldable pub numbered_wishes : ℕ → RawWishes → Result Numbered Reason
numbered_wishes line w = do
  names ← steps (wished_name_step line) [] w.parties
  arcs ← collected_results (numbered_arc line names) w.arcs
  Ok (record { names = names; arcs = arcs })

abbrev pub HasBoundedEnds : ℕ → NumberedArc → Type 0
HasBoundedEnds n a = (a.ends.from < n) × (a.ends.to < n)

-- each end is the number of a party
abbrev pub AreBoundedEnds : Numbered → Type 0
AreBoundedEnds numbered = (a : ℕ) (d : NumberedArc) → a < length numbered.arcs → HasBoundedEnds (length numbered.names) (slice_index_or numbered.arcs a d)
