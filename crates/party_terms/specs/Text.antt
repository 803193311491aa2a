-- The text of a party's terms, line by line.
use Rattle.std.specs.Prelude.{◌==◌, ℕ, Bool, true, false, List, [], ◌∷◌, ◌++◌, codes, decimal, length, slice_index_or, if◌then◌else◌}
use Rattle.std.specs.List.{flat_map}
use Rattle.hex.specs.Hex.{encode_lower}
use Rattle.time_bounds.specs.Times as times
use Rattle.swap_digraph.specs.declared.deal.Deal.{Deal}
use Rattle.swap_digraph.specs.declared.deal.Mode.{Mode}
use Rattle.swap_digraph.specs.declared.deal.Mode.TheVariants.{Timelocks, Hashkeys}
use Rattle.swap_digraph.specs.Deal.{amount, counterparty, leads, locks, party}
use Rattle.swap_digraph.specs.Graph.{entering, leaving}
use Rattle.swap_base.specs.Text.{joined}
use Rattle.party_terms.specs.declared.context.ContextLine.{ContextLine}
use Rattle.party_terms.specs.Times.{awake_height, claim_deadline, last_opening, publish_deadline, refund_height, show_deadline}

-- the name of party p
abbrev pub told_name : List (List ℕ) → ℕ → List ℕ
told_name names p = slice_index_or names p []

-- ---- of the deal

-- the party by name and number, and how many there are
unfoldable pub terms_party_line : List (List ℕ) → ℕ → List ℕ
terms_party_line names v =
    joined (codes "terms " ∷ told_name names v ∷ codes " " ∷ decimal v ∷ codes " of " ∷ decimal (length names) ∷ codes "\n" ∷ [])

-- the deal's id, and the digest to agree on
unfoldable pub digest_lines : (id agreed : List ℕ) → List ℕ
digest_lines id agreed = joined (codes "deal " ∷ encode_lower id ∷ codes "\nagree " ∷ encode_lower agreed ∷ codes "\n" ∷ [])

abbrev pub mode_word : Mode → List ℕ
mode_word Timelocks = codes "timelocks"
mode_word Hashkeys = codes "hashkeys"

-- the mode and the times
unfoldable pub times_line : Deal → List ℕ
times_line d =
    joined (codes "mode " ∷ mode_word d.mode ∷ codes " start " ∷ decimal d.start ∷ codes " delta " ∷ decimal d.delta ∷ codes " bound " ∷ decimal d.bound ∷
    codes " horizon " ∷ decimal (times.horizon d.start d.delta d.bound) ∷ codes "\n" ∷ [])

-- ---- of an arc

-- a line of context where it is of arc a
abbrev pub context_line_if : ℕ → ContextLine → List ℕ
context_line_if a x = if x.arc == a then x.line ++ 10 ∷ [] else []

-- the lines of context of arc a, as they stand
abbrev pub arc_context : List ContextLine → ℕ → List ℕ
arc_context context a = flat_map (context_line_if a) context

-- an arc that leaves the party: whom it pays how much, when, and from when it is refunded
unfoldable pub pays_line : List (List ℕ) → Deal → ℕ → List ℕ
pays_line names d a =
    joined (codes "pays " ∷ decimal a ∷ codes " " ∷ told_name names (counterparty d a) ∷ codes " " ∷ decimal (amount d a) ∷ codes " publish by " ∷
    decimal (publish_deadline d (party d a)) ∷ codes " back " ∷ decimal (refund_height d a) ∷ codes "\n" ∷ [])

-- until when an arc can be opened, and by when it is claimed
unfoldable pub until_text : Deal → ℕ → List ℕ
until_text d a =
    joined (codes " open" ∷ codes " until " ∷ decimal (last_opening d a) ∷ codes " claim" ∷ codes " by " ∷ decimal (claim_deadline d a) ∷ codes "\n" ∷ [])

-- an arc that enters the party: who pays it how much, and when
unfoldable pub gets_line : List (List ℕ) → Deal → ℕ → List ℕ
gets_line names d a =
    joined (codes "gets " ∷ decimal a ∷ codes " " ∷ told_name names (party d a) ∷ codes " " ∷ decimal (amount d a) ∷ []) ++ until_text d a

unfoldable pub paid_lines : List (List ℕ) → Deal → List ContextLine → ℕ → List ℕ
paid_lines names d context a = pays_line names d a ++ arc_context context a

unfoldable pub got_lines : List (List ℕ) → Deal → List ContextLine → ℕ → List ℕ
got_lines names d context a = gets_line names d a ++ arc_context context a

-- ---- of a lock

abbrev pub lead_line : Deal → ℕ → List ℕ
lead_line d i = joined (codes "leads " ∷ decimal i ∷ codes " show by " ∷ decimal (show_deadline d) ∷ codes "\n" ∷ [])

abbrev pub lead_line_if : (leads : Bool) → Deal → ℕ → List ℕ
lead_line_if true d i = lead_line d i
lead_line_if false d i = []

-- a lock, where the party leads it, and by when it shows its hashkey
abbrev pub leads_line : Deal → ℕ → ℕ → List ℕ
leads_line d v i = lead_line_if (leads d v i) d i

-- ---- the whole

-- until when the party's wallet has to be awake
unfoldable pub awake_line : Deal → ℕ → List ℕ
awake_line d v = joined (codes "awake" ∷ codes " until " ∷ decimal (awake_height d v) ∷ codes "\n" ∷ [])

-- what stands before the arcs
unfoldable pub terms_head_text : List (List ℕ) → Deal → List ℕ → ℕ → List ℕ
terms_head_text names d agreed v = terms_party_line names v ++ digest_lines d.id agreed ++ times_line d

-- the terms of party v, where the digest to agree on is this
unfoldable pub terms_text : List (List ℕ) → Deal → List ContextLine → List ℕ → ℕ → List ℕ
terms_text names d context agreed v =
    terms_head_text names d agreed v ++ flat_map (paid_lines names d context) (leaving d.graph v) ++ flat_map (got_lines names d context) (entering d.graph v) ++
    flat_map (leads_line d v) (locks d) ++ awake_line d v
