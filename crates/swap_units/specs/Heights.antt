-- From what height on a party has its units.
use Rattle.std.specs.Prelude.{◌≡◌, ℕ, ◌+◌, ◌<◌, ◌≤◌, true, false, List, ◌++◌}
use Rattle.swap_base.specs.Lists.{IsElement}
use Rattle.time_bounds.specs.Times as times
use Rattle.swap_digraph.specs.Graph.{leaving, entering}
use Rattle.swap_digraph.specs.Deal.{amount}
use Rattle.swap_digraph.specs.declared.deal.Deal.{Deal}
use Rattle.ledger_core.specs.declared.entry.Entry.{Entry}
use Rattle.ledger_core.specs.History.{balance, height}
use Rattle.ledger_core.specs.Book.{Histories, history, IsLegalBook}
use Rattle.swap_rules.specs.Accepted.{IsAccepted}
use Rattle.swap_rules.specs.Party.{is_correct, is_triggered, least_expiry}
use Rattle.swap_rules.specs.Conduct.{IsConducted}
use Rattle.swap_rules.specs.Late.{trigger_height}
use Rattle.swap_rules.specs.Outcome.{EnteringHaveEnded, LeavingHaveEnded}
use Rattle.swap_rules.specs.Laws.{IsOnTime, IsUnforged}
use Rattle.swap_rules.specs.Walking.{HasLost}
use Rattle.swap_units.specs.Units.{HasUnits}

-- at every moment at which the ledger of arc a stands above the height t, v's balance on it is the
-- arc's whole amount
abbrev pub HasAllAbove : Deal → Histories → ℕ → ℕ → ℕ → Type 0
HasAllAbove d b v a t = (past rest : List Entry) → history b a ≡ past ++ rest → t < height past → balance d a past v ≡ amount d a

-- When v has its units, on ledgers that may go on. Each leaving arc that isn't triggered is whole
-- above delta after its least expiry. Each correct entering arc that is triggered is paid above
-- delta after its last unlock. Neither height is above the horizon.
pub record HasUnitsBy (d : Deal) (b : Histories) (v : ℕ) : Type 0 where
  pub refunds : (a : ℕ) → IsElement a (leaving d.graph v) → is_triggered d b a ≡ false → HasAllAbove d b v a (least_expiry d a (history b a) + d.delta)
  pub refunds_end : (a : ℕ) → IsElement a (leaving d.graph v) → is_triggered d b a ≡ false
      → least_expiry d a (history b a) + d.delta ≤ times.horizon d.start d.delta d.bound
  pub paid : (a : ℕ) → IsElement a (entering d.graph v) → is_correct d b a ≡ true → is_triggered d b a ≡ true
      → HasAllAbove d b v a (trigger_height d (history b a) + d.delta)
  pub paid_end : (a : ℕ) → IsElement a (entering d.graph v) → is_correct d b a ≡ true → is_triggered d b a ≡ true
      → trigger_height d (history b a) + d.delta ≤ times.horizon d.start d.delta d.bound

-- in every legal book of an accepted deal, ended or not, a conducted party that is nowhere late has
-- its units by then
abbrev pub OnTimeHasUnitsBy : Type 0
OnTimeHasUnitsBy = (d : Deal) (b : Histories) (v : ℕ) → IsAccepted d → IsLegalBook d b → IsConducted d b v → IsOnTime d b v → HasUnitsBy d b v

-- In every legal book of an accepted deal a conducted party that is nowhere late has its units, if
-- the ledgers next to it have ended. Where nothing is forged in its name and one leaving arc is
-- triggered, each entering arc pays it from the horizon on.
abbrev pub OnTimeIsWhole : Type 0
OnTimeIsWhole =
    (d : Deal) (b : Histories) (v : ℕ) → IsAccepted d → IsLegalBook d b → EnteringHaveEnded d b v → LeavingHaveEnded d b v → IsConducted d b v
    → IsOnTime d b v
    → HasUnits d b v × (IsUnforged d b v → HasLost d b v → (a : ℕ) → IsElement a (entering d.graph v)
    → HasAllAbove d b v a (times.horizon d.start d.delta d.bound))
