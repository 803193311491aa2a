-- The summary of a job's run: how large it was, and what it came to. Every number is in decimal.
use Rattle.std.specs.Prelude.{ℕ, false, List, [], ◌∷◌, codes, decimal, length, map, slice_index_or}
use Rattle.std.specs.List.{range_with_len}
use Rattle.swap_base.specs.Text.{joined}
use Rattle.swap_digraph.specs.declared.deal.Deal.{Deal as DealOf}
use Rattle.ledger_core.specs.Book.{Histories}
use Rattle.swap_job.specs.declared.job.Job.{Job}
use Rattle.swap_rules.specs.declared.outcome.Outcome.{Outcome}
use Rattle.swap_rules.specs.declared.outcome.Outcome.TheVariants.{NoDeal, FreeRide, Underwater, Deal, Discount}
use Rattle.swap_rules.specs.Outcome.{outcome}
use Rattle.swap_rules.specs.Findings.{findings}
use Rattle.made_jobs.specs.Counts.{entry_count, refused_count, ended_so}

unfoldable pub size_line : DealOf → List ℕ
size_line d =
    joined (codes "parties " ∷ decimal d.graph.n ∷ codes " arcs " ∷ decimal (length d.graph.arcs) ∷ codes " leaders " ∷ decimal (length d.leaders)
    ∷ codes "\n" ∷ [])

unfoldable pub run_line : (events : ℕ) → Histories → List ℕ
run_line events b =
    joined (codes "events " ∷ decimal events ∷ codes " entries " ∷ decimal (entry_count b) ∷ codes " refused " ∷ decimal (refused_count b)
    ∷ codes "\n" ∷ [])

unfoldable pub outcome_line : List Outcome → List ℕ
outcome_line os =
    joined (codes "Deal " ∷ decimal (ended_so Deal os) ∷ codes " NoDeal " ∷ decimal (ended_so NoDeal os) ∷ codes " FreeRide " ∷ decimal (ended_so FreeRide os)
    ∷ codes " Discount " ∷ decimal (ended_so Discount os) ∷ codes " Underwater " ∷ decimal (ended_so Underwater os) ∷ codes "\n" ∷ [])

unfoldable pub found_line : ℕ → List ℕ
found_line found = joined (codes "findings " ∷ decimal found ∷ codes "\n" ∷ [])

-- the summary of a number of events and their book, with the parties' outcomes and the number of
-- findings
unfoldable pub outcome_summary : DealOf → (events : ℕ) → Histories → List Outcome → (found : ℕ) → List ℕ
outcome_summary d events b outcomes found = joined (codes "swap summary 1\n" ∷ size_line d ∷ run_line events b ∷ outcome_line outcomes ∷ found_line found ∷ [])

-- the summary of a job, its number of events and the book of its run
unfoldable pub summary : Job → (events : ℕ) → Histories → List ℕ
summary job events b =
    outcome_summary job.deal events b (map (outcome job.deal b) (range_with_len 0 job.deal.graph.n))
    (length (findings job.deal (λ p. slice_index_or job.conforming p false) b))
