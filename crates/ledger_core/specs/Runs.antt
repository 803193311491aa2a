-- Entries, where ticks that follow each other by the same number are one item.
use Rattle.std.specs.Prelude.{◌+◌, ◌*◌, ◌<◌, ◌^◌, ℕ, zero, suc, List, [], ◌∷◌, ◌++◌}
use Rattle.std.specs.List.{flat_map}
use Rattle.escrow_core.specs.declared.reply.Reply.TheVariants.{Accepted}
use Rattle.ledger_core.specs.declared.entry.Entry.{Entry}
use Rattle.ledger_core.specs.Ledger.{tick_entry}
use Rattle.ledger_core.specs.declared.runs.Run.{Run}
use Rattle.ledger_core.specs.declared.runs.Item.{Item}
use Rattle.ledger_core.specs.declared.runs.Item.TheVariants.{One, Ticks}

-- `count` ticks by k, above the height `at`
abbrev pub ticks_above : (at k count : ℕ) → List Entry
ticks_above at k zero = []
ticks_above at k (suc n) = ticks_above at k n ++ tick_entry k (at + k * suc n) Accepted ∷ []

-- the ticks of a run
abbrev pub run_ticks : Run → List Entry
run_ticks r = ticks_above r.above r.by r.count

-- the entries of an item
abbrev pub ledger_entries : Item → List Entry
ledger_entries (One e) = e ∷ []
ledger_entries (Ticks r) = run_ticks r

-- the entries of the items, oldest first
abbrev pub expand : List Item → List Entry
expand items = flat_map ledger_entries items

-- the height after the run's last tick is a number of 32 bits
abbrev pub IsRightRun : Run → Type 0
IsRightRun r = r.above + r.by * r.count < 2 ^ 32

abbrev pub IsRight : Item → Type 0
IsRight (One e) = Unit {0}
IsRight (Ticks r) = IsRightRun r
