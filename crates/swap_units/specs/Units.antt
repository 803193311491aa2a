-- What a party has on the arcs next to it, in units.
use Rattle.std.specs.Prelude.{◌≡◌, ◌≢◌, ◌⊎◌, ℕ, ◌<◌, Bool, true, false, List, Some}
use Rattle.std.specs.List.{list_any}
use Rattle.swap_base.specs.Lists.{IsElement, IsMoment}
use Rattle.swap_digraph.specs.Graph.{leaving, entering}
use Rattle.swap_digraph.specs.Deal.{amount}
use Rattle.swap_digraph.specs.declared.deal.Deal.{Deal}
use Rattle.ledger_core.specs.declared.entry.Entry.{Entry}
use Rattle.ledger_core.specs.declared.entry.Call.TheVariants.{Transfer}
use Rattle.ledger_core.specs.History.{balance}
use Rattle.ledger_core.specs.Book.{Histories, history, IsLegalBook}
use Rattle.swap_rules.specs.declared.outcome.Outcome.TheVariants.{NoDeal, FreeRide, Underwater, Deal as WholeDeal, Discount}
use Rattle.swap_rules.specs.Accepted.{IsAccepted}
use Rattle.swap_rules.specs.Party.{pick_call}
use Rattle.swap_rules.specs.Conduct.{IsConducted}
use Rattle.swap_rules.specs.Outcome.{is_got, outcome}
use Rattle.swap_rules.specs.Findings.{findings}
use Rattle.swap_rules.specs.Laws.{HasRefunds, IsSafe, IsUnforged, names_party}
use Rattle.swap_rules.specs.Walking.{endangers, strands, GivesNothing, HasLost, HasPublishedNothing, IsWatchful}

-- v's balance on each arc that leaves it is the arc's whole amount: it lost nothing
abbrev pub KeepsAll : Deal → Histories → ℕ → Type 0
KeepsAll d b v = (a : ℕ) → IsElement a (leaving d.graph v) → balance d a (history b a) v ≡ amount d a

-- v's balance on each arc that enters it is the arc's whole amount: it is paid in full
abbrev pub IsPaid : Deal → Histories → ℕ → Type 0
IsPaid d b v = (a : ℕ) → IsElement a (entering d.graph v) → balance d a (history b a) v ≡ amount d a

-- v makes no transfer on an arc that enters it
abbrev pub GivesNothingBack : Deal → Histories → ℕ → Type 0
GivesNothingBack d b v =
    (a : ℕ) (past : List Entry) (e : Entry) (to units : ℕ) → IsElement a (entering d.graph v) → IsMoment (history b a) past e
    → pick_call v e ≡ Some (Transfer to units) → ⊥

-- What v has: each leaving arc that isn't triggered is whole again, and each correct entering arc
-- that was claimed is paid in full. Where nothing is forged in its name, v is paid in full as soon
-- as one leaving arc is triggered; so it lost nothing, or was paid in full.
pub record HasUnits (d : Deal) (b : Histories) (v : ℕ) : Type 0 where
  pub refunds : HasRefunds d b v
  pub got : (a : ℕ) → IsElement a (entering d.graph v) → is_got d b a ≡ true → balance d a (history b a) v ≡ amount d a
  pub paid : IsUnforged d b v → HasLost d b v → IsPaid d b v
  pub either : IsUnforged d b v → KeepsAll d b v ⊎ IsPaid d b v

-- In every legal book of an accepted deal a correct arc that was claimed is paid in full, if the
-- claimant transfers nothing on it, whatever its payer and anybody else did.
abbrev pub GotIsPaid : Type 0
GotIsPaid =
    (d : Deal) (b : Histories) (v a : ℕ) → IsAccepted d → IsLegalBook d b → GivesNothingBack d b v → IsElement a (entering d.graph v)
    → is_got d b a ≡ true → balance d a (history b a) v ≡ amount d a

-- in every legal book of an accepted deal a conducted party that lost an arc and isn't underwater
-- is paid in full
abbrev pub AboveWaterIsPaid : Type 0
AboveWaterIsPaid =
    (d : Deal) (b : Histories) (v : ℕ) → IsAccepted d → IsLegalBook d b → IsConducted d b v → outcome d b v ≢ Underwater → HasLost d b v → IsPaid d b v

-- in every legal book of an accepted deal a conducted party that is safe has its units
abbrev pub SafeIsWhole : Type 0
SafeIsWhole = (d : Deal) (b : Histories) (v : ℕ) → IsAccepted d → IsLegalBook d b → IsConducted d b v → IsSafe d b v → HasUnits d b v

-- in every legal book of an accepted deal a party that is conducted and watchful has its units,
-- whatever it publishes or leaves out, and whatever the others do
abbrev pub WatchfulIsWhole : Type 0
WatchfulIsWhole = (d : Deal) (b : Histories) (v : ℕ) → IsAccepted d → IsLegalBook d b → IsConducted d b v → IsWatchful d b v → HasUnits d b v

-- in every legal book of an accepted deal a party that has published and transferred nothing keeps
-- all, and has what it got
abbrev pub UnpublishedIsWhole : Type 0
UnpublishedIsWhole =
    (d : Deal) (b : Histories) (v : ℕ) → IsAccepted d → IsLegalBook d b → HasPublishedNothing d b v → GivesNothing d b v → GivesNothingBack d b v
    → KeepsAll d b v × ((a : ℕ) → IsElement a (entering d.graph v) → is_got d b a ≡ true → balance d a (history b a) v ≡ amount d a)

-- What an outcome of v says in units.
pub record MeansUnits (d : Deal) (b : Histories) (v : ℕ) : Type 0 where
  pub whole : outcome d b v ≡ WholeDeal → IsPaid d b v
  pub discount : outcome d b v ≡ Discount → IsPaid d b v
  pub free_ride : outcome d b v ≡ FreeRide → HasRefunds d b v → KeepsAll d b v
  pub no_deal : outcome d b v ≡ NoDeal → HasRefunds d b v → KeepsAll d b v

-- in every legal book of an accepted deal the outcome of a conducted party says what it has in
-- units
abbrev pub OutcomesAreUnits : Type 0
OutcomesAreUnits = (d : Deal) (b : Histories) (v : ℕ) → IsAccepted d → IsLegalBook d b → IsConducted d b v → MeansUnits d b v

-- What findings say in units.

-- of a legal book of an accepted deal: a conforming party that no finding endangers, and in whose
-- name none stands, is paid in full as soon as an arc that leaves it is triggered
abbrev pub UnendangeredIsPaid : Type 0
UnendangeredIsPaid =
    (d : Deal) (conforming : ℕ → Bool) (b : Histories) (v : ℕ) → IsAccepted d → IsLegalBook d b → v < d.graph.n → conforming v ≡ true
    → list_any (endangers d v) (findings d conforming b) ≡ false → list_any (names_party d v) (findings d conforming b) ≡ false → HasLost d b v
    → IsPaid d b v

-- where besides no finding strands it, it has its units: it lost nothing, or is paid in full
abbrev pub UnstrandedIsWhole : Type 0
UnstrandedIsWhole =
    (d : Deal) (conforming : ℕ → Bool) (b : Histories) (v : ℕ) → IsAccepted d → IsLegalBook d b → v < d.graph.n → conforming v ≡ true
    → list_any (endangers d v) (findings d conforming b) ≡ false → list_any (strands d v) (findings d conforming b) ≡ false
    → list_any (names_party d v) (findings d conforming b) ≡ false → HasUnits d b v × (KeepsAll d b v ⊎ IsPaid d b v)
