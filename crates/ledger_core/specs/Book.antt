-- One history per arc.
use Rattle.std.specs.Prelude.{◌≡◌, ◌<◌, ℕ, List, [], length, slice_index_or}
use Rattle.swap_digraph.specs.declared.deal.Deal.{Deal}
use Rattle.ledger_core.specs.declared.entry.Entry.{Entry}
use Rattle.ledger_core.specs.History.{IsLegal}

abbrev pub Histories : Type 0
Histories = List (List Entry)

-- the history of arc a
abbrev pub history : Histories → ℕ → List Entry
history b a = slice_index_or b a []

-- one legal history per arc
pub record IsLegalBook (d : Deal) (b : Histories) : Type 0 where
  pub one_each : length b ≡ length d.graph.arcs
  pub legal : (a : ℕ) → a < length b → IsLegal d a (history b a)
