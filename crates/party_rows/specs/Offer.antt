-- A plain offer without seeds: the header line of a plain job that tells nobody's seed.
use Rattle.std.specs.Prelude.{ℕ, List, Option, codes, is_none, Result, Ok, Err, if◌then◌else◌}
use Rattle.std.specs.List.{list_all}
use Rattle.swap_base.specs.Fault.{◌>>=◌}
use Rattle.swap_digraph.specs.Value.{Graph}
use Rattle.swap_job.specs.declared.job.Job.{Job}
use Rattle.swap_job.specs.declared.job.Purpose.TheVariants.{Make}
use Rattle.command_input.specs.declared.reason.Reason.{Reason}
use Rattle.command_input.specs.declared.reason.Reason.TheVariants.{UnknownField}
use Rattle.command_input.specs.declared.refusal.Refusal.{Refusal}
use Rattle.command_input.specs.Refusal.{named_result}
use Rattle.offer_header.specs.declared.header.Header.{Header}
use Rattle.offer_header.specs.Header.{parse_whole_header}
use Rattle.offer_header.specs.Names.{no_strategy}
use Rattle.swap_offer.specs.Checks.{admitted, assemble_job}
use Rattle.swap_offer.specs.Job.{header_names}
use Rattle.party_rows.specs.Lines.{short_header}

-- no party's seed is told
unfoldable pub no_seed_told : ℕ → List (Option (List ℕ)) → Result (Unit {0}) Reason
no_seed_told line seeds = if list_all is_none seeds then Ok tt else Err (UnknownField line (codes "seed"))

-- the digraph of a header that passes its checks and tells nobody's seed
unfoldable pub examined : ℕ → Header → Result Graph Reason
examined line h = do
  g ← admitted h
  u ← no_seed_told line h.seeds
  Ok g

-- the job that a header proposes
unfoldable pub proposed_job : ℕ → Header → Result Job Reason
proposed_job line h = do
  g ← examined line h
  Ok (assemble_job h g)

-- the job that a line proposes; it states no strategy
unfoldable pub parse_plain : ℕ → List ℕ → Result Job Reason
parse_plain line text = parse_whole_header no_strategy Make line text >>= proposed_job line

-- the job that a plain offer's line proposes, or the first reason against it with the names in the
-- line
unfoldable pub parse_offer : ℕ → List ℕ → Result Job Refusal
parse_offer line text = do
  u ← short_header line text
  named_result (header_names no_strategy Make line text) (parse_plain line text)
