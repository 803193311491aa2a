-- Histories in which the refused unlocks, claims and refunds of a party are passed over, so that
-- they make nothing called.
use Rattle.std.specs.Prelude.{ℕ, Bool, true, false, not, ◌&&◌, List, filter, map, Option, Some, is_none}
use Rattle.ledger_core.specs.declared.entry.Call.{Call}
use Rattle.ledger_core.specs.declared.entry.Call.TheVariants.{Unlock, Claim, Refund}
use Rattle.ledger_core.specs.declared.entry.Entry.{Entry}
use Rattle.ledger_core.specs.History.{accepted}
use Rattle.ledger_core.specs.Book.{Histories}
use Rattle.swap_rules.specs.Party.{pick_call}

-- the call is one that may be made again where it was refused
abbrev pub may_repeat : Option Call → Bool
may_repeat (Some (Unlock key)) = true
may_repeat (Some Claim) = true
may_repeat (Some Refund) = true
may_repeat _ = false

-- the entry is an unlock, a claim or a refund of v that was refused
abbrev pub is_passed : ℕ → Entry → Bool
is_passed v e = may_repeat (pick_call v e) && is_none (accepted e)

-- what counts of a history for v: all but those
abbrev pub counted : ℕ → List Entry → List Entry
counted v h = filter (λ e. not (is_passed v e)) h

-- what counts of a book
abbrev pub all_counted : ℕ → Histories → Histories
all_counted v b = map (counted v) b
