-- The findings of a book, in their order.
use Rattle.std.specs.Prelude.{ℕ, ◌+◌, Bool, not, nat_lt, List, [], ◌∷◌, ◌++◌, length, map, filter_map, Option, Some, None, if◌then◌else◌}
use Rattle.std.specs.List.{flat_map, range_with_len}
use Rattle.swap_base.specs.Lists.{Moment, moments}
use Rattle.time_bounds.specs.Times as times
use Rattle.swap_digraph.specs.Graph.{arcs}
use Rattle.swap_digraph.specs.declared.deal.Deal.{Deal}
use Rattle.swap_digraph.specs.Deal.{locks}
use Rattle.ledger_core.specs.declared.entry.Entry.{Entry}
use Rattle.ledger_core.specs.History.{height}
use Rattle.ledger_core.specs.Book.{Histories, history}
use Rattle.swap_rules.specs.declared.finding.Rule.{Rule}
use Rattle.swap_rules.specs.declared.finding.Rule.TheVariants.{Publish as ToPublish, Unlock as ToUnlock, Claim as ToClaim, Refund as ToRefund}
use Rattle.swap_rules.specs.declared.finding.Finding.{Finding}
use Rattle.swap_rules.specs.declared.finding.Finding.TheVariants.{Broke, Late, Forged, Unfinished}
use Rattle.swap_rules.specs.Conduct.{keeps_entry}
use Rattle.swap_rules.specs.Late.{is_late, reference_height}
use Rattle.swap_rules.specs.Forged.{is_forged}

-- what is said of each entry that fails the test, by its number
abbrev pub failing : (ℕ → Finding) → (Moment Entry → Bool) → List Entry → List Finding
failing say test h = filter_map (λ m. if test m then None else Some (say (length m.past))) (moments h)

-- where v broke a rule of conduct, by arc and entry
abbrev pub broken : Deal → Histories → ℕ → List Finding
broken d b v = flat_map (λ a. failing (Broke v a) (keeps_entry d b v a) (history b a)) (arcs d.graph)

-- the rules in their order, that of unlocks by lock
abbrev pub deal_rules : Deal → List Rule
deal_rules d = ToPublish ∷ [] ++ map ToUnlock (locks d) ++ ToClaim ∷ ToRefund ∷ []

-- the number, 0 where there is none
abbrev pub or_zero : Option ℕ → ℕ
or_zero None = 0
or_zero (Some n) = n

-- whether v is late by the rule on arc a, with the height at which the action was due
abbrev pub arc_late_findings : Deal → Histories → ℕ → Rule → ℕ → List Finding
arc_late_findings d b v rule a = if is_late d b v rule a then Late v rule a (or_zero (reference_height d b v rule a) + d.delta) ∷ [] else []

-- where v is late, by rule, lock and arc
abbrev pub lates : Deal → Histories → ℕ → List Finding
lates d b v = flat_map (λ rule. flat_map (arc_late_findings d b v rule) (arcs d.graph)) (deal_rules d)

-- where an entry is forged in v's name, by arc and entry
abbrev pub forgeries : Deal → Histories → ℕ → List Finding
forgeries d b v = flat_map (λ a. failing (Forged v a) (λ m. not (is_forged d b v m.now)) (history b a)) (arcs d.graph)

-- what is found of v
abbrev pub party_findings : Deal → Histories → ℕ → List Finding
party_findings d b v = broken d b v ++ lates d b v ++ forgeries d b v

-- the ledgers that aren't above the horizon, by arc, with their heights
abbrev pub unfinished : Deal → Histories → List Finding
unfinished d b =
    flat_map (λ a. if nat_lt (times.horizon d.start d.delta d.bound) (height (history b a)) then [] else Unfinished a (height (history b a)) ∷ [])
    (arcs d.graph)

-- what is found of each conforming party, and then of the ledgers
abbrev pub findings : Deal → (ℕ → Bool) → Histories → List Finding
findings d conforming b = flat_map (λ v. if conforming v then party_findings d b v else []) (range_with_len 0 d.graph.n) ++ unfinished d b
