-- What is written by `keys` and by `deal`, or the first reason against what was handed over.
use Rattle.std.specs.Prelude.{ℕ, List, slice_index_or, [], Option, Some, None, Result, Ok, Err}
use Rattle.swap_base.specs.Fault.{◌>>=◌}
use Rattle.swap_job.specs.declared.job.Job.{Job}
use Rattle.command_input.specs.declared.refusal.Refusal.{Refusal}
use Rattle.party_rows.specs.Digests.{seed_line}
use Rattle.party_rows.specs.Lines.{first_line, ended_lines, no_line}
use Rattle.party_rows.specs.Names.{party_named}
use Rattle.party_rows.specs.declared.row.Row.{Row}
use Rattle.party_rows.specs.declared.reason.DealReason.{DealReason}
use Rattle.party_rows.specs.declared.reason.DealReason.TheVariants.{Refused, NoRow}
use Rattle.party_rows.specs.Offer.{parse_offer}
use Rattle.party_rows.specs.Row.{seeded_row, row_line}
use Rattle.party_rows.specs.Rows.{first_missing, parse_rows}
use Rattle.party_rows.specs.Dealt.{dealt, dealt_line}

-- ---- keys: a line that tells a seed, and a plain offer

-- the line of the row that a seed gives the party of that name
unfoldable pub row_of_name : List ℕ → List ℕ → Job → Result (List ℕ) Refusal
row_of_name name seed job = do
  p ← party_named 2 job.names name
  Ok (row_line name (seeded_row seed p job.deal))

-- the line of the row that a seed gives the party of that name in the deal of these lines, which
-- are an offer's line and no other
unfoldable pub row_from_lines : List ℕ → List ℕ → List (List ℕ) → Result (List ℕ) Refusal
row_from_lines name seed ls = do
  offer ← first_line ls
  job ← parse_offer 2 offer.0
  u ← no_line 3 offer.1
  row_of_name name seed job

unfoldable pub keys_from_lines : List ℕ → List (List ℕ) → Result (List ℕ) Refusal
keys_from_lines name ls = do
  seed ← seed_line 1 ls
  row_from_lines name seed.0 seed.1

-- what `keys` writes for the party of that name
unfoldable pub keys_output : List ℕ → List ℕ → Result (List ℕ) Refusal
keys_output name text = ended_lines text >>= keys_from_lines name

-- what the library's call writes, to which the seed is handed apart from the offer's line; lines
-- are counted as where the seed has one
unfoldable pub own_row_output : List ℕ → List ℕ → List ℕ → Result (List ℕ) Refusal
own_row_output name seed text = ended_lines text >>= row_from_lines name seed

-- ---- deal: a plain offer, and a row for each party

-- A job, and the rows that were told for it, a place for each party.
pub record DealingState : Type 0 where
  pub job : Job
  pub rows : List (Option Row)

unfoldable pub parse_dealing_lines : List (List ℕ) → Result DealingState Refusal
parse_dealing_lines ls = do
  offer ← first_line ls
  job ← parse_offer 1 offer.0
  rows ← parse_rows job 2 offer.1
  Ok (record { job = job; rows = rows })

-- the job and the rows of a text
unfoldable pub parse_dealing : List ℕ → Result DealingState Refusal
parse_dealing text = ended_lines text >>= parse_dealing_lines

abbrev pub deal_by_refusal : {A : Type 0} → Result A Refusal → Result A DealReason
deal_by_refusal (Ok x) = Ok x
deal_by_refusal (Err refusal) = Err (Refused refusal)

abbrev pub unless_missing : DealingState → Option ℕ → Result (List ℕ) DealReason
unless_missing s None = Ok (dealt_line (dealt s.rows s.job))
unless_missing s (Some p) = Err (NoRow (slice_index_or s.job.names p []))

-- the deal's line, where each party has a row
unfoldable pub deal_from_rows : DealingState → Result (List ℕ) DealReason
deal_from_rows s = unless_missing s (first_missing s.rows)

-- what `deal` writes
unfoldable pub deal_output : List ℕ → Result (List ℕ) DealReason
deal_output text = deal_by_refusal (parse_dealing text) >>= deal_from_rows
