-- What is told of each finding beside its line: whether it is final, and whether it is harmless.
use Rattle.std.specs.Prelude.{ℕ, Bool, false, not, List, [], ◌∷◌, codes, decimal, if◌then◌else◌}
use Rattle.swap_base.specs.Text.{joined, lines}
use Rattle.swap_digraph.specs.declared.deal.Deal.{Deal}
use Rattle.swap_rules.specs.declared.finding.Finding.{Finding}
use Rattle.swap_rules.specs.declared.finding.Finding.TheVariants.{Late}
use Rattle.swap_rules.specs.declared.finding.Rule.{Rule}
use Rattle.swap_rules.specs.declared.finding.Rule.TheVariants.{Publish}
use Rattle.swap_rules.specs.Useful.{opens_in_time}
use Rattle.outcome_rules.specs.declared.report.Report.{Report}

-- a publish that lands at that height, on whichever arc, opens in time
abbrev pub opens_at : Deal → ℕ → Bool
opens_at d n = opens_in_time d (λ a. n) 0

-- the action is a publish, and one that lands at that height doesn't open in time
abbrev pub opens_too_late : Deal → Rule → ℕ → Bool
opens_too_late d Publish n = not (opens_at d n)
opens_too_late d _ n = false

-- A finding is harmless where a party was late with a publish that was due only at a height at
-- which it doesn't open in time: it could only hurt the party itself, and a wallet withholds it.
unfoldable pub is_harmless : Deal → Finding → Bool
is_harmless d (Late v rule a due) = opens_too_late d rule due
is_harmless d _ = false

unfoldable pub weight_word : Bool → List ℕ
weight_word harmless = if harmless then codes "harmless" else codes "counts"

-- every ledger is above the horizon, so nothing that may come changes what is found
unfoldable pub standing_word : Bool → List ℕ
standing_word ended = if ended then codes "final" else codes "provisional"

-- the line of the finding of that number, counted from 0
unfoldable pub mark_line : Deal → Bool → ℕ → Finding → List ℕ
mark_line d ended number f =
    joined (codes "finding " ∷ decimal number ∷ codes " " ∷ standing_word ended ∷ codes " " ∷ weight_word (is_harmless d f) ∷ codes "\n" ∷ [])

-- the lines of a report's findings
abbrev pub mark_lines : Deal → Report → List ℕ
mark_lines d r = lines (mark_line d r.ended) 0 r.findings
