-- A deal with what its parties' rows give: hashlocks and keys; timelocks and the id follow.
use Rattle.std.specs.Prelude.{◌≡◌, ℕ, List, [], ◌∷◌, codes, map, replicate, Option, Some, None, unwrap_or}
use Rattle.std.specs.List.{range_with_len}
use Rattle.swap_base.specs.Text.{joined}
use Rattle.swap_digraph.specs.declared.deal.Deal.{Deal}
use Rattle.swap_digraph.specs.declared.deal.Mode.{Mode}
use Rattle.swap_digraph.specs.declared.deal.Mode.TheVariants.{Timelocks, Hashkeys}
use Rattle.hashkey_path.specs.Digest.{deal_id}
use Rattle.swap_job.specs.declared.job.Job.{Job}
use Rattle.swap_job.specs.declared.job.Purpose.TheVariants.{Audit}
use Rattle.swap_rules.specs.Accepted.{IsAccepted}
use Rattle.swap_gen.specs.Made.{all_timelocks}
use Rattle.offer_text.specs.HeaderLine.{header_line}
use Rattle.party_rows.specs.declared.row.Row.{Row}
use Rattle.party_rows.specs.Rows.{find_row}

abbrev pub row_hashlock : Option Row → List ℕ
row_hashlock None = replicate 32 0
row_hashlock (Some row) = unwrap_or row.hashlock (replicate 32 0)

abbrev pub row_keys : Option Row → List (List ℕ)
row_keys None = []
row_keys (Some row) = row.keys

-- the hashlock in a leader's row
abbrev pub told_hashlock : List (Option Row) → ℕ → List ℕ
told_hashlock rows leader = row_hashlock (find_row rows leader)

-- the keys in the row of party p
abbrev pub told_keys : List (Option Row) → ℕ → List (List ℕ)
told_keys rows p = row_keys (find_row rows p)

-- the keys of each party, given the number of parties; none with timelocks
abbrev pub all_told_keys : Mode → List (Option Row) → ℕ → List (List (List ℕ))
all_told_keys Timelocks rows n = []
all_told_keys Hashkeys rows n = map (told_keys rows) (range_with_len 0 n)

-- the deal but for its id
abbrev pub filled_deal : List (Option Row) → Deal → Deal
filled_deal rows d = record d { hashlocks = map (told_hashlock rows) d.leaders; keys = all_told_keys d.mode rows d.graph.n; timelocks = all_timelocks d.mode d }

-- the deal with all that the rows give, and the digest of what it then says as its id
unfoldable pub dealt_deal : List (Option Row) → Deal → Deal
dealt_deal rows d = record (filled_deal rows d) { id = deal_id (filled_deal rows d) }

-- the job with its deal made by rows, as a transcript shows it
abbrev pub dealt : List (Option Row) → Job → Job
dealt rows job = record job { purpose = Audit; deal = dealt_deal rows job.deal }

-- the header line of a job, with a line feed
unfoldable pub dealt_line : Job → List ℕ
dealt_line job = joined (header_line job ∷ codes "\n" ∷ [])

-- A text is the header line of a job whose deal is accepted.
pub record IsDealtText (text : List ℕ) : Type 0 where
  pub job : Job
  pub is : text ≡ dealt_line job
  pub accepted : IsAccepted job.deal
