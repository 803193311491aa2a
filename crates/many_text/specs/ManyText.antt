-- The text of many swaps, line by line. Every number is in decimal.
use Rattle.std.specs.Prelude.{ℕ, ◌+◌, ◌==◌, Bool, not, List, [], ◌∷◌, length, codes, decimal}
use Rattle.swap_base.specs.Text.{joined, lines}
use Rattle.ledger_core.specs.Book.{Histories}
use Rattle.swap_job.specs.declared.job.Job.{Job}
use Rattle.outcome_rules.specs.declared.report.Report.{Report}
use Rattle.outcome_rules.specs.Report.{build_report}
use Rattle.run_texts.specs.Report.{count_line, report}
use Rattle.swap_many.specs.Chains.{Units}
use Rattle.swap_many.specs.Kept.{Kept}

-- the book of swap s
abbrev pub swap_book : Kept → ℕ → Histories
swap_book z s = (z.swaps s).book

-- its report
abbrev pub kept_report : Kept → ℕ → Job → Report
kept_report z s job = build_report job.deal job.conforming (swap_book z s)

abbrev pub swap_line : ℕ → List ℕ
swap_line s = joined (codes "swap " ∷ decimal s ∷ codes "\n" ∷ [])

-- the number of a swap, and its report
unfoldable pub swap_text : ℕ → Job → Histories → Report → List ℕ
swap_text s job b r = joined (swap_line s ∷ report job b r ∷ [])

abbrev pub kept_swap_text : Kept → ℕ → Job → List ℕ
kept_swap_text z s job = swap_text s job (swap_book z s) (kept_report z s job)

-- an account and its free units
abbrev pub account_text : Units → ℕ → List ℕ → List ℕ
account_text free x name = joined (codes " " ∷ name ∷ codes " " ∷ decimal (free x) ∷ [])

-- a chain: its height, and its accounts
unfoldable pub chain_text : ℕ → ℕ → Units → List (List ℕ) → List ℕ
chain_text i height free names =
    joined (codes "chain " ∷ decimal i ∷ codes " height " ∷ decimal height ∷ lines (account_text free) 0 names ∷ codes "\n" ∷ [])

abbrev pub kept_chain_text : Kept → ℕ → List (List ℕ) → List ℕ
kept_chain_text z i names = chain_text i (z.clocks i).height (z.free i) names

-- how many findings there are from swap s on
abbrev pub finding_count : Kept → ℕ → List Job → ℕ
finding_count z s [] = 0
finding_count z s (job ∷ jobs) = length (kept_report z s job).findings + finding_count z (s + 1) jobs

-- the whole text of swaps, where the chains' accounts have these names
unfoldable pub many_text : List Job → List (List (List ℕ)) → Kept → List ℕ
many_text jobs names z = joined (lines (kept_swap_text z) 0 jobs ∷ lines (kept_chain_text z) 0 names ∷ count_line (finding_count z 0 jobs) ∷ [])

-- whether it tells of a finding
abbrev pub has_finding : List Job → Kept → Bool
has_finding jobs z = not (finding_count z 0 jobs == 0)
