-- The law of deals of rows.
use Rattle.std.specs.Prelude.{◌≡◌, ℕ, List, map, Option, Some}
use Rattle.std.specs.List.{range_with_len}
use Rattle.swap_digraph.specs.declared.deal.Deal.{Deal}
use Rattle.swap_job.specs.declared.job.Job.{Job}
use Rattle.swap_job.specs.declared.job.Purpose.TheVariants.{Audit}
use Rattle.swap_offer.specs.Proposed.{IsProposed}
use Rattle.swap_gen.specs.Made.{made_deal, seed_or_zeros}
use Rattle.party_rows.specs.declared.row.Row.{Row}
use Rattle.party_rows.specs.Dealt.{dealt, dealt_deal, dealt_line}
use Rattle.party_rows.specs.Row.{seeded_row}

-- the row that the seed of each party gives it
abbrev pub seeded_rows : List (Option (List ℕ)) → Deal → List (Option Row)
seeded_rows seeds d = map (λ p. Some (seeded_row (seed_or_zeros seeds p) p d)) (range_with_len 0 d.graph.n)

-- With the rows that the parties' seeds give, the deal of a proposed one is that which is made with
-- these seeds.
abbrev pub DealtIsMade : Type 0
DealtIsMade = (seeds : List (Option (List ℕ))) (d : Deal) → IsProposed d → dealt_deal (seeded_rows seeds d) d ≡ made_deal seeds d

-- The line of the deal is the header line of the job that `make` makes, as a transcript shows it.
abbrev pub DealtLineIsMade : Type 0
DealtLineIsMade =
    (seeds : List (Option (List ℕ))) (job : Job) → IsProposed job.deal
    → dealt_line (dealt (seeded_rows seeds job.deal) job) ≡ dealt_line (record (record job { deal = made_deal seeds job.deal }) { purpose = Audit })
