-- At which height a call lands, by what was told of its chain.
use Rattle.std.specs.Prelude.{◌+◌, ◌&&◌, ℕ, max, Bool, not, List, Option, Some, None, slice_index_or}
use Rattle.swap_digraph.specs.Graph.{is_listed}
use Rattle.ledger_core.specs.History.{height}
use Rattle.ledger_core.specs.Book.{Histories, history}
use Rattle.swap_rules.specs.Conduct.{is_publish}
use Rattle.swap_rules.specs.Due.{has_called}
use Rattle.told_ledgers.specs.declared.told_ledger.ToldLedger.{ToldLedger}
use Rattle.told_ledgers.specs.Ledger.{untold}

-- heights that needn't be told
abbrev pub heights_told : Option ℕ → ℕ
heights_told None = 0
heights_told (Some n) = n

-- a call that is presented now on arc a lands at this height, or below: that of its ledger as it was
-- told or of its chain's tip, whichever is greater, and in how many heights a call lands
abbrev pub landing_height : Histories → List ToldLedger → ℕ → ℕ
landing_height k ts a = max (height (history k a)) (heights_told (slice_index_or ts a untold).tip) + heights_told (slice_index_or ts a untold).margin

-- a publish was sent on arc a, and none of v is told there
abbrev pub may_land : (sent : List ℕ) → ℕ → Histories → ℕ → Bool
may_land sent v k a = is_listed a sent && not (has_called v is_publish (history k a))
