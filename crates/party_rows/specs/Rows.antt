-- The rows of an offer's parties, in any order.
use Rattle.std.specs.Prelude.{◌≡◌, ◌<◌, ℕ, Bool, true, false, List, [], ◌∷◌, codes, length, replicate, slice_index_or, slice_set, position}
use Rattle.std.specs.Prelude.{is_none, Option, Some, None, Result, Ok, Err}
use Rattle.swap_base.specs.Fault.{◌>>=◌}
use Rattle.swap_digraph.specs.declared.deal.Deal.{Deal}
use Rattle.swap_digraph.specs.declared.deal.Mode.{Mode}
use Rattle.swap_digraph.specs.declared.deal.Mode.TheVariants.{Timelocks, Hashkeys}
use Rattle.swap_rules.specs.Party.{leads_one}
use Rattle.swap_job.specs.declared.job.Job.{Job}
use Rattle.command_input.specs.declared.reason.Reason.TheVariants.{Duplicate}
use Rattle.command_input.specs.declared.refusal.Refusal.{Refusal}
use Rattle.command_input.specs.Refusal.{named_result}
use Rattle.offer_moves.specs.FieldLimits.{check_range}
use Rattle.party_rows.specs.Lines.{nameless, following_line_number, or_bad_line}
use Rattle.party_rows.specs.Names.{party_named}
use Rattle.party_rows.specs.declared.row.Row.{Row}
use Rattle.party_rows.specs.declared.row.NamedRow.{NamedRow}
use Rattle.party_rows.specs.Row.{parse_row}

-- the row of party p, if it is there
abbrev pub find_row : List (Option Row) → ℕ → Option Row
find_row rows p = slice_index_or rows p None

-- how many hashlocks a party has
abbrev pub hashlocks_wanted : (leads : Bool) → ℕ
hashlocks_wanted true = 1
hashlocks_wanted false = 0

-- how many keys a party has
abbrev pub keys_wanted : Mode → Deal → ℕ
keys_wanted Timelocks d = 0
keys_wanted Hashkeys d = length d.leaders

abbrev pub count_hashlocks : Option (List ℕ) → ℕ
count_hashlocks None = 0
count_hashlocks (Some hashlock) = 1

-- it is the first row of the party
abbrev pub check_first : ℕ → List ℕ → Option Row → Result (Unit {0}) Refusal
check_first line name None = Ok tt
check_first line name (Some row) = Err (nameless (Duplicate line name))

-- the row has a hashlock exactly where the party leads
unfoldable pub right_hashlock : ℕ → (leads : Bool) → Row → Result (Unit {0}) Refusal
right_hashlock line leads row =
    named_result [] (check_range line (codes "hashlock") (hashlocks_wanted leads) (hashlocks_wanted leads) (count_hashlocks row.hashlock))

-- it has a key for each lock, with timelocks none
unfoldable pub right_keys : ℕ → Deal → Row → Result (Unit {0}) Refusal
right_keys line d row = named_result [] (check_range line (codes "keys") (keys_wanted d.mode d) (keys_wanted d.mode d) (length row.keys))

-- the rows with that of party p, which the line of that number gives
unfoldable pub with_party_row : Job → ℕ → List (Option Row) → ℕ → NamedRow → Result (List (Option Row)) Refusal
with_party_row job line rows p r = do
  u ← check_first line r.name (find_row rows p)
  v ← right_hashlock line (leads_one job.deal p) r.row
  w ← right_keys line job.deal r.row
  Ok (slice_set rows p (Some r.row))

-- the rows with the one that a line gives
unfoldable pub with_row : Job → ℕ → List (Option Row) → List ℕ → Result (List (Option Row)) Refusal
with_row job line rows text = do
  r ← or_bad_line line (parse_row text)
  p ← party_named line job.names r.name
  with_party_row job line rows p r

-- the rows with those that lines give, where the first line has that number
abbrev pub with_rows : Job → ℕ → List (Option Row) → List (List ℕ) → Result (List (Option Row)) Refusal
with_rows job line rows [] = Ok rows
with_rows job line rows (l ∷ ls) = with_row job line rows l >>= λ more. with_rows job (following_line_number line) more ls

-- the rows that lines give, a place for each party
unfoldable pub parse_rows : Job → ℕ → List (List ℕ) → Result (List (Option Row)) Refusal
parse_rows job line ls = with_rows job line (replicate job.deal.graph.n None) ls

-- the first party without a row
abbrev pub first_missing : List (Option Row) → Option ℕ
first_missing rows = position is_none rows

-- There is a place for each party of the deal, and each row has as many keys as the deal wants.
pub record AreDealRows (d : Deal) (rows : List (Option Row)) : Type 0 where
  pub one_each : length rows ≡ d.graph.n
  pub keys : (p : ℕ) (row : Row) → p < d.graph.n → find_row rows p ≡ Some row → length row.keys ≡ keys_wanted d.mode d
