-- The findings of ledgers that haven't ended.
use Rattle.std.specs.Prelude.{ℕ, List, [], ◌∷◌, nat_lt, if◌then◌else◌}
use Rattle.ledger_core.specs.History.{height}
use Rattle.ledger_core.specs.Book.{Histories, history}
use Rattle.swap_rules.specs.declared.finding.Finding.{Finding}
use Rattle.swap_rules.specs.declared.finding.Finding.TheVariants.{Unfinished}

-- the ledger of arc a, where it isn't above the horizon
abbrev pub arc_unfinished : ℕ → Histories → ℕ → List Finding
arc_unfinished end b a = if nat_lt end (height (history b a)) then [] else Unfinished a (height (history b a)) ∷ []
