-- Units between the steps of several swaps.
use Rattle.std.specs.Prelude.{◌≡◌, ℕ, ◌<◌, List, length, fold, take}
use Rattle.std.specs.List.{All}
use Rattle.swap_many.specs.declared.many_event.ManyEvent.{ManyEvent}
use Rattle.swap_many.specs.Accounts.{account_units}
use Rattle.swap_many.specs.Chains.{Setup, book, free, chain_height}
use Rattle.swap_many.specs.Many.{Run, done, many_run}
use Rattle.swap_many.specs.Kept.{Kept, kept_finish, kept_run}
use Rattle.swap_many.specs.Laws.{IsReadySetup, CanCome, Follows}
use Rattle.swap_many.specs.Way.{Step, collect_kept, Leads}
use Rattle.swap_many.specs.Value.{ManyState, nth_world, nth_chain, AreUnitsPlaced}

-- what a step does, by the histories of the chains
abbrev pub run_step : Setup → Run → Step → Run
run_step m r x = done x.fair m r x.event

-- the run after steps
abbrev pub stepped_run : Setup → Run → List Step → Run
stepped_run m r steps = fold (run_step m) r steps

-- After steps from the run r what is kept follows, and on each chain all units are in one place.
pub record ArePlacedAfterSteps (m : Setup) (r : Run) (z : Kept) (steps : List Step) : Type 0 where
  pub follows : Follows m (stepped_run m r steps) (fold (collect_kept m) z steps)
  pub units : AreUnitsPlaced m (stepped_run m r steps)

-- A fair finish from the run r is made of steps, and after each of them all units are in one place.
pub record IsPlacedOnTheWay (m : Setup) (r : Run) (z : Kept) : Type 0 where
  pub way : Leads m z (kept_finish m z)
  pub placed : (k : ℕ) → ArePlacedAfterSteps m r z (take k way.steps)

abbrev pub UnitsStayPlaced : Type 0
UnitsStayPlaced =
    (m : Setup) (events : List ManyEvent) → IsReadySetup m → All (CanCome m) events → IsPlacedOnTheWay m (many_run m events) (kept_run m events)

-- The books, the heights and the free accounts are those of a run that goes on from r by steps,
-- after which all units are in one place.
pub record IsCutRun (m : Setup) (r : Run) (w : ManyState) : Type 0 where
  pub steps : List Step
  pub can : All (λ x. CanCome m x.event) steps
  pub books : (s : ℕ) → s < length w.worlds → (nth_world w s).state.book ≡ book m (stepped_run m r steps).chains s
  pub heights : (i : ℕ) → (nth_chain w i).clock.height ≡ chain_height ((stepped_run m r steps).chains i)
  pub free : (i : ℕ) → account_units (nth_chain w i).free ≡ free m i ((stepped_run m r steps).chains i)
  pub units : AreUnitsPlaced m (stepped_run m r steps)
