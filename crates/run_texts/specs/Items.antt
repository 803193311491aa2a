-- The lines of entries whose ticks are kept as runs.
use Rattle.std.specs.Prelude.{ℕ, List, []}
use Rattle.escrow_core.specs.declared.terms.Terms.{Terms}
use Rattle.ledger_core.specs.declared.runs.Item.{Item}
use Rattle.ledger_core.specs.declared.runs.Item.TheVariants.{One, Ticks}
use Rattle.run_texts.specs.Report.{what_line}

-- the line of an item; ticks have none
abbrev pub item_line : List (List ℕ) → Terms → ℕ → Item → List ℕ
item_line names t number (One e) = what_line names t e e.what
item_line names t number (Ticks r) = []
