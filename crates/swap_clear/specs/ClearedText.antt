-- What is written of a line of wishes. Every number is in decimal, and parties stand by their
-- names.
use Rattle.std.specs.Prelude.{◌≡◌, ℕ, List, [], ◌∷◌, codes, decimal, slice_index_or, Result, Ok}
use Rattle.serde_json.specs.Data.{Data, string, object, Members, no_members, member}
use Rattle.serde_json.specs.Written.{compact_text}
use Rattle.swap_base.specs.Fault.{◌>>=◌}
use Rattle.swap_base.specs.Text.{joined, lines}
use Rattle.offer_text.specs.Words.{list_data, name_data, number_data}
use Rattle.command_input.specs.Line.{all_named}
use Rattle.command_input.specs.declared.reason.Reason.{Reason}
use Rattle.swap_clear.specs.declared.answer.Group.{Group}
use Rattle.swap_clear.specs.declared.answer.LeftOut.{LeftOut}
use Rattle.swap_clear.specs.declared.proposed.Proposed.{Proposed}
use Rattle.swap_clear.specs.Cleared.{parse_cleared, Shows}
use Rattle.swap_clear.specs.Limits.{AreWishesInLimits}
use Rattle.swap_clear.specs.declared.cleared.Cleared.{Cleared}
use Rattle.swap_clear.specs.declared.limits.Wishes.{Wishes}

-- ---- the plain job of a group, but for its parties' seeds, the fields of each object in the order
-- of their bytes

-- an object whose one field is the name of party p
abbrev pub named_data : List ℕ → List (List ℕ) → ℕ → Data
named_data field names p = object (member field (name_data names p) no_members)

-- the proposed transfer of that number
abbrev pub proposal : List Proposed → ℕ → Proposed
proposal arcs a = slice_index_or arcs a (record { from = 0; to = 0; amount = 0 })

abbrev pub proposal_data : List (List ℕ) → Proposed → Data
proposal_data names a =
    object (member (codes "amount") (number_data a.amount)
    (member (codes "from") (name_data names a.from)
    (member (codes "to") (name_data names a.to) no_members)))

abbrev pub last_cleared_fields : Wishes → Group → Members
last_cleared_fields w group =
    member (codes "parties") (list_data (named_data (codes "name") w.names) group.parties)
    (member (codes "start") (number_data w.start)
    (member (codes "swap") (number_data 2) no_members))

abbrev pub members_data : Wishes → Group → Members
members_data w group =
    member (codes "leaders") (list_data (named_data (codes "party") w.names) group.leaders)
    (member (codes "mode") (string (codes "hashkeys"))
    (last_cleared_fields w group))

abbrev pub group_fields : Wishes → Group → Members → Members
group_fields w group ms =
    member (codes "arcs") (list_data (λ a. proposal_data w.names (proposal w.arcs a)) group.arcs)
    (member (codes "bound") (number_data group.bound)
    (member (codes "delta") (number_data w.delta) ms))

abbrev pub group_data : Wishes → Group → Data
group_data w group = object (group_fields w group (members_data w group))

-- its line: compact JSON, as `serde_json` writes it
unfoldable pub group_line : Wishes → Group → List ℕ
group_line w group = compact_text (group_data w group)

-- ---- the lines

-- an arc that is left out, with the parties that its counterparty reaches
abbrev pub left_out_line : List (List ℕ) → ℕ → LeftOut → List ℕ
left_out_line names place l = joined (codes "left out " ∷ decimal l.arc ∷ codes " closed " ∷ all_named names l.closed ∷ codes "\n" ∷ [])

-- a leader's cycle
abbrev pub cycle_line : List (List ℕ) → ℕ → List ℕ → List ℕ
cycle_line names place cycle = joined (codes "cycle " ∷ all_named names cycle ∷ codes "\n" ∷ [])

-- a group: its number, its leaders' cycles, and its plain job
unfoldable pub group_text : Wishes → ℕ → Group → List ℕ
group_text w number group =
    joined (codes "group " ∷ decimal number ∷ codes "\n" ∷ lines (cycle_line w.names) 0 group.cycles ∷ group_line w group ∷ codes "\n" ∷ [])

-- the text of what is cleared
unfoldable pub cleared_text : Cleared → List ℕ
cleared_text c =
    joined (codes "swap cleared 1\n" ∷ lines (left_out_line c.wishes.names) 0 c.clearing.left_out ∷
    lines (group_text c.wishes) 0 c.clearing.groups ∷ [])

-- what is written of a line, or the first reason why it is refused
unfoldable pub cleared_line : ℕ → List ℕ → Result (List ℕ) Reason
cleared_line line text = do
  cleared ← parse_cleared line text
  Ok (cleared_text cleared)

-- The text is that of a line's clearing, and what is cleared shows what it says.
pub record IsClearedLine (line : ℕ) (text written : List ℕ) : Type 0 where
  pub cleared : Cleared
  pub is_read : parse_cleared line text ≡ Ok cleared
  pub within : AreWishesInLimits cleared.wishes
  pub shown : written ≡ cleared_text cleared
  pub shows : Shows cleared
