-- What the answer promises the parties that conform, where found is the answered list of findings.
use Rattle.std.specs.Prelude.{◌≡◌, ◌≢◌, ◌⊎◌, ℕ, ◌<◌, Bool, true, false, List, slice_index_or}
use Rattle.std.specs.List.{list_any}
use Rattle.swap_digraph.specs.declared.deal.Deal.{Deal}
use Rattle.ledger_core.specs.Book.{Histories}
use Rattle.swap_rules.specs.declared.finding.Finding.{Finding}
use Rattle.swap_rules.specs.declared.outcome.Outcome.{Outcome}
use Rattle.swap_rules.specs.declared.outcome.Outcome.TheVariants.{NoDeal, FreeRide, Underwater, Deal as WholeDeal, Discount}
use Rattle.swap_rules.specs.Conduct.{IsConducted}
use Rattle.swap_rules.specs.Laws.{names_party, HasRefunds, IsSafe}
use Rattle.swap_rules.specs.Walking.{endangers, strands, GivesNothing, HasLost, HasPublishedNothing, IsWatchful, LosesNothing}
use Rattle.swap_units.specs.Units.{HasUnits, IsPaid, KeepsAll}
use Rattle.coalition_laws.specs.Coalition.{Coalition, only, GainsNothing, IsUnharmed, OthersAreUnharmed}
use Rattle.outcome_rules.specs.declared.report.Report.{Report}
use Rattle.outcome_rules.specs.Report.{is_conforming_party}

-- A conforming party of the deal, without a finding that passes the test.
pub record IsClear (says : Finding → Bool) (d : Deal) (conforming : List Bool) (found : List Finding) (v : ℕ) : Type 0 where
  pub party : v < d.graph.n
  pub conforms : is_conforming_party conforming v ≡ true
  pub clear : list_any says found ≡ false

-- A conforming party doesn't end underwater if no finding endangers it and none stands in its name
-- on an arc that leaves it. It may have published or asked back late.
abbrev pub NoneIsUnderwater : Deal → List Bool → (ℕ → Outcome) → List Finding → Type 0
NoneIsUnderwater d conforming outcome_of found = (v : ℕ) → IsClear (endangers d v) d conforming found v → list_any (names_party d v) found ≡ false
    → outcome_of v ≢ Underwater

-- every conforming party that no finding strands, forged or not, has the whole amount of each
-- leaving arc that isn't triggered, however late it unlocked or claimed
abbrev pub AllHaveRefunds : Deal → List Bool → Histories → List Finding → Type 0
AllHaveRefunds d conforming b found = (v : ℕ) → IsClear (strands d v) d conforming found v → HasRefunds d b v

-- every conforming party that no finding endangers, and in whose name none stands, is paid in full
-- as soon as an arc that leaves it is triggered: its balance on each arc that enters it is the arc's
-- whole amount
abbrev pub AllArePaid : Deal → List Bool → Histories → List Finding → Type 0
AllArePaid d conforming b found = (v : ℕ) → IsClear (endangers d v) d conforming found v → list_any (names_party d v) found ≡ false → HasLost d b v
    → IsPaid d b v

-- every conforming party that no finding endangers or strands, and in whose name none stands, lost
-- nothing or is paid in full: its balance is the whole amount of each arc that leaves it, or of
-- each arc that enters it
abbrev pub NoneLosesUnits : Deal → List Bool → Histories → List Finding → Type 0
NoneLosesUnits d conforming b found = (v : ℕ) → IsClear (endangers d v) d conforming found v → IsClear (strands d v) d conforming found v
    → list_any (names_party d v) found ≡ false → KeepsAll d b v ⊎ IsPaid d b v

-- every party that is conducted and watchful is safe and has its units, whatever is found of it,
-- and whatever the others do
abbrev pub WatchfulAreWhole : Deal → Histories → Type 0
WatchfulAreWhole d b = (v : ℕ) → IsConducted d b v → IsWatchful d b v → IsSafe d b v × HasUnits d b v

-- every party that has published and transferred nothing on the arcs that leave it has lost nothing
abbrev pub UnpublishedLoseNothing : Deal → Histories → Type 0
UnpublishedLoseNothing d b = (v : ℕ) → HasPublishedNothing d b v → GivesNothing d b v → LosesNothing d b v

-- every party of the deal conforms
abbrev pub AllAreConforming : Deal → List Bool → Type 0
AllAreConforming d conforming = (v : ℕ) → v < d.graph.n → is_conforming_party conforming v ≡ true

-- the outcome that the report shows of party v, the worst where it shows none
abbrev pub shown_outcome : Report → ℕ → Outcome
shown_outcome r v = slice_index_or r.outcomes v Underwater

-- the report shows every party of the deal with the whole deal
abbrev pub AllAreWhole : Deal → Report → Type 0
AllAreWhole d r = (v : ℕ) → v < d.graph.n → shown_outcome r v ≡ WholeDeal

-- Nobody gains by cheating, alone or together, unless one who keeps to the protocol is harmed:
-- named by a finding that endangers it, or forged on an arc that leaves it.
pub record NobodyGains (d : Deal) (conforming : List Bool) (b : Histories) (outcome_of : ℕ → Outcome) (found : List Finding) : Type 0 where
  -- no coalition gains, as long as all outside it conform and are unharmed
  pub together : (c : Coalition) → OthersAreUnharmed d (is_conforming_party conforming) found c → GainsNothing d b c
  -- nor does one party alone: its outcome is neither a free ride nor a discount
  pub alone : (v : ℕ) → v < d.graph.n → OthersAreUnharmed d (is_conforming_party conforming) found (only v)
      → (outcome_of v ≢ FreeRide) × (outcome_of v ≢ Discount)
  -- where all conform and are unharmed, either nobody has a deal or everybody has the whole deal
  pub all_or_nothing : ((v : ℕ) → v < d.graph.n → IsUnharmed d (is_conforming_party conforming) found v)
      → ((v : ℕ) → v < d.graph.n → outcome_of v ≡ NoDeal) ⊎ ((v : ℕ) → v < d.graph.n → outcome_of v ≡ WholeDeal)
