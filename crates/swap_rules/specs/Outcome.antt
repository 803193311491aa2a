-- How a book ended for a party (Herlihy 2018, section 3).
use Rattle.std.specs.Prelude.{ℕ, ◌<◌, Bool, true, false, ◌&&◌, ◌==◌, nat_lt, length, count_by, Option, Some, None, if◌then◌else◌}
use Rattle.swap_base.specs.Lists.{IsElement}
use Rattle.time_bounds.specs.Times as times
use Rattle.swap_digraph.specs.Graph.{leaving, entering}
use Rattle.swap_digraph.specs.declared.deal.Deal.{Deal}
use Rattle.ledger_core.specs.declared.facts.Settlement.{Settlement}
use Rattle.ledger_core.specs.declared.facts.Settlement.TheVariants.{Claimed, Refunded}
use Rattle.ledger_core.specs.History.{settled, height}
use Rattle.ledger_core.specs.Book.{Histories, history}
use Rattle.swap_rules.specs.declared.outcome.Outcome.{Outcome}
use Rattle.swap_rules.specs.declared.outcome.Outcome.TheVariants.{NoDeal, FreeRide, Underwater, Deal as WholeDeal, Discount}
use Rattle.swap_rules.specs.Party.{is_correct, is_triggered}

-- settled by an accepted claim
abbrev pub is_claim : Option Settlement → Bool
is_claim (Some Claimed) = true
is_claim (Some Refunded) = false
is_claim None = false

-- arc a is correct and has an accepted claim
abbrev pub is_got : Deal → Histories → ℕ → Bool
is_got d b a = is_correct d b a && is_claim (settled (history b a))

-- how many entering arcs are correct and have an accepted claim
abbrev pub got : Deal → Histories → ℕ → ℕ
got d b v = count_by (is_got d b) (entering d.graph v)

-- how many leaving arcs are triggered
abbrev pub lost : Deal → Histories → ℕ → ℕ
lost d b v = count_by (is_triggered d b) (leaving d.graph v)

-- by what v lost and what it got
unfoldable pub outcome : Deal → Histories → ℕ → Outcome
outcome d b v =
    if lost d b v == 0 then (if got d b v == 0 then NoDeal else FreeRide)
    else if nat_lt (got d b v) (length (entering d.graph v)) then Underwater
    else if lost d b v == length (leaving d.graph v) then WholeDeal
    else Discount

-- the book has ended: each ledger's height is above the horizon
abbrev pub IsEnded : Deal → Histories → Type 0
IsEnded d b = (a : ℕ) → a < length d.graph.arcs → times.horizon d.start d.delta d.bound < height (history b a)

-- each ledger that enters v has ended
abbrev pub EnteringHaveEnded : Deal → Histories → ℕ → Type 0
EnteringHaveEnded d b v = (a : ℕ) → IsElement a (entering d.graph v) → times.horizon d.start d.delta d.bound < height (history b a)

-- each ledger that leaves v has ended
abbrev pub LeavingHaveEnded : Deal → Histories → ℕ → Type 0
LeavingHaveEnded d b v = (a : ℕ) → IsElement a (leaving d.graph v) → times.horizon d.start d.delta d.bound < height (history b a)
