-- What the fields of a history mean, and what holds of them.
use Rattle.std.specs.Prelude.{◌≡◌, ◌-◌, ◌++◌, ℕ, Bool, true, false, nat_lt, if◌then◌else◌, List, length, is_some, vec_len, vec_capacity}
use Rattle.std.specs.List.{AllByRecursion}
use Rattle.ledger_core.specs.declared.entry.Entry.{Entry}
use Rattle.ledger_core.specs.Runs.{expand, run_ticks, IsRight, IsRightRun}
use Rattle.ledger_core.specs.Value.{HistoryState}
use Rattle.ledger_core.specs.declared.ledger_history.LedgerHistory.TheInside.{Inside}

abbrev pub inside_entries : Inside → List Entry
inside_entries h = expand h.items.items ++ run_ticks h.open

-- An entry may need two places, one for the ticks that it closes and its own, and a call's entry
-- has memory of its own besides.
abbrev pub spare_entries : (has_room : Bool) (places : ℕ) → ℕ
spare_entries false places = 0
spare_entries true places = if nat_lt 1 places then 1 else 0

abbrev pub inside_history : Inside → HistoryState
inside_history h = record { list = inside_entries h; spare = spare_entries (is_some h.room) (vec_capacity h.items - vec_len h.items) }

pub record AreParts (h : Inside) : Type 0 where
  pub items : AllByRecursion IsRight h.items.items
  pub run : IsRightRun h.open
  pub count : h.count ≡ length (inside_entries h)
