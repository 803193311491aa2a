-- A run on disks whose crashes come behind any disk call and leave any bytes that a disk may leave.
use Rattle.std.specs.Prelude.{◌≡◌, ℕ, ◌<◌, ◌≤◌, true, List, [], ◌∷◌, All, slice_set}
use Rattle.wallet_journal.specs.Held.{Held, Leaves}
use Rattle.swap_job.specs.declared.event.Event.{Event}
use Rattle.swap_job.specs.Step.{CanStep}
use Rattle.swap_run.specs.Run.{Cast, State, conforms, run}
use Rattle.disk_laws.specs.DiskRun.{StateOnDisks, disk_behind, restart_from, step_on_disks, start_on_disks}
use Rattle.disk_laws.specs.Laws.{CanUseDisks}

-- What happens in such a run: an event; or party v begins its act, crashes behind the first n disk
-- calls, and its disk holds these bytes.
pub data Happening : Type 0 where
  Comes : Event → Happening
  Crashes : (v n : ℕ) (bytes : List ℕ) → Happening

-- a disk that holds these bytes, all of them synced
abbrev pub disk_of : List ℕ → Held
disk_of bytes = record { synced = record { at = 0; bytes = bytes } ∷ []; loose = []; spare = 0 }

-- what it does
abbrev pub happens : Cast → StateOnDisks → Happening → StateOnDisks
happens c s (Comes e) = step_on_disks c s e
happens c s (Crashes v n bytes) = record { state = restart_from c s.state v bytes; disks = slice_set s.disks v (disk_of bytes) }

-- The crash may come: the party conforms, and its disk may leave these bytes then.
pub record CanLeave (c : Cast) (s : StateOnDisks) (v n : ℕ) (bytes : List ℕ) : Type 0 where
  pub known : v < c.deal.graph.n
  pub conforms : conforms c v ≡ true
  pub few : n ≤ 4
  pub left : Leaves (disk_behind c s v n) bytes

abbrev pub CanHappen : Cast → StateOnDisks → Happening → Type 0
CanHappen c s (Comes e) = CanStep c.deal c.conforming c.seeds e
CanHappen c s (Crashes v n bytes) = CanLeave c s v n bytes

-- each may happen, one after another
abbrev pub CanAllHappen : Cast → StateOnDisks → List Happening → Type 0
CanAllHappen c s [] = Unit {0}
CanAllHappen c s (x ∷ xs) = CanHappen c s x × CanAllHappen c (happens c s x) xs

-- the state after all of them
abbrev pub after_all : Cast → StateOnDisks → List Happening → StateOnDisks
after_all c s [] = s
after_all c s (x ∷ xs) = after_all c (happens c s x) xs

-- The state is that of the run after some list of events.
pub record IsOfRun (c : Cast) (s : State) : Type 0 where
  pub events : List Event
  pub can : All (CanStep c.deal c.conforming c.seeds) events
  pub same : s ≡ run c events

-- whatever happens, it is so
abbrev pub AnyCrashesAreRuns : Type 0
AnyCrashesAreRuns =
    (c : Cast) (xs : List Happening) → CanUseDisks c (after_all c (start_on_disks c) xs).state.book → CanAllHappen c (start_on_disks c) xs
    → IsOfRun c (after_all c (start_on_disks c) xs).state
