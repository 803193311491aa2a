-- The laws of a run on disks: it is the run, and each crash of the run is what a disk leaves.
use Rattle.std.specs.Prelude.{◌≡◌, ℕ, ◌<◌, ◌≤◌, true, List, ◌++◌, All, Option, Some}
use Rattle.swap_base.specs.Lists.{IsMoment}
use Rattle.swap_digraph.specs.declared.deal.Deal.{Deal}
use Rattle.hashkey_path.specs.declared.hashkey.Hashkey.{Hashkey}
use Rattle.wallet_journal.specs.Layout.{HasWholeParts}
use Rattle.wallet_journal.specs.Held.{Leaves, visible_bytes}
use Rattle.ledger_core.specs.declared.entry.Call.TheVariants.{Unlock}
use Rattle.ledger_core.specs.declared.entry.Entry.{Entry}
use Rattle.ledger_core.specs.History.{accepted}
use Rattle.ledger_core.specs.Book.{Histories, history}
use Rattle.swap_rules.specs.Due.{Wallet}
use Rattle.swap_job.specs.declared.event.Event.{Event}
use Rattle.swap_job.specs.Step.{CanStep}
use Rattle.swap_run.specs.Run.{Cast, State, conforms, state_notes, next_action, recorded_hashkeys, crash, run}
use Rattle.swap_run.specs.Fair.{finish}
use Rattle.swap_run.specs.Steps.{finish_steps}
use Rattle.swap_run.specs.Laws.{IsReadyCast}
use Rattle.swap_world.specs.Cast.{signing_wallet}
use Rattle.swap_world.specs.Recorded.{IsPartyDisk}
use Rattle.disk_laws.specs.DiskRun.{StateOnDisks, party_disk, disk_behind, crashed_disk, read_back, restart_from, crash_on_disk, run_on_disks}

-- What the wallet signs has the sizes of its type: a secret of 32 bytes, and signatures of 2,144
-- bytes each.
pub record SignsWhole (w : Wallet) : Type 0 where
  pub first : (i : ℕ) → HasWholeParts (w.first i)
  pub onto : (inner : Hashkey) → HasWholeParts inner → HasWholeParts (w.onto inner)

-- so has each hashkey that a ledger accepted
abbrev pub TookWhole : Histories → Type 0
TookWhole b = (a : ℕ) (past : List Entry) (e : Entry) (key : Hashkey) → IsMoment (history b a) past e → accepted e ≡ Some (Unlock key) → HasWholeParts key

-- The cast is ready, and the hashkeys that conforming parties sign and that ledgers accept in the
-- book have the sizes of their type, so that a disk can tell them.
pub record CanUseDisks (c : Cast) (b : Histories) : Type 0 where
  pub ready : IsReadyCast c
  pub signs : (v : ℕ) → v < c.deal.graph.n → conforms c v ≡ true → SignsWhole (c.wallet v)
  pub took : TookWhole b

-- The crash is one of the run's: within disk call k, with an image.
pub record IsCrash (c : Cast) (s : State) (v : ℕ) (left : State) : Type 0 where
  pub k : ℕ
  pub image : ℕ
  pub few : k ≤ 3
  pub same : left ≡ crash c s v k image

-- What holds of party v in the state s on disks.
pub record IsOnDisk (c : Cast) (s : StateOnDisks) (v : ℕ) : Type 0 where
  -- its disk is one as `recorded` speaks of
  pub disk : IsPartyDisk c.deal s.state v (party_disk s v)
  -- what is read back of a crash within any disk call, with any image, is what the run says
  pub reads : (k image : ℕ) → k ≤ 3
      → read_back c.deal (visible_bytes (crashed_disk c s v k image)) ≡ recorded_hashkeys (state_notes s.state v).signed (next_action c s.state v) k image
  pub crashes : (k image : ℕ) → k ≤ 3 → (crash_on_disk c s v k image).state ≡ crash c s.state v k image
  -- whatever bytes a crash leaves, behind any number of the act's disk calls, restarting from them
  -- is a crash of the run
  pub any : (n : ℕ) (bytes : List ℕ) → n ≤ 4 → Leaves (disk_behind c s v n) bytes → IsCrash c s.state v (restart_from c s.state v bytes)

-- The laws.

-- The state of the run on disks is the state of the run, and each conforming party's disk is one as
-- `recorded` speaks of, whose crashes are those of the run.
pub record IsRunOnDisks (c : Cast) (events : List Event) : Type 0 where
  pub same : (run_on_disks c events).state ≡ run c events
  pub disks : (v : ℕ) → v < c.deal.graph.n → conforms c v ≡ true → IsOnDisk c (run_on_disks c events) v

-- after every list of events
abbrev pub RunsAreOnDisks : Type 0
RunsAreOnDisks =
    (c : Cast) (events : List Event) → CanUseDisks c (run c events).book → All (CanStep c.deal c.conforming c.seeds) events → IsRunOnDisks c events

-- and after a fair finish, which is made of events
abbrev pub FinishesAreOnDisks : Type 0
FinishesAreOnDisks =
    (c : Cast) (events : List Event) → CanUseDisks c (finish c (run c events)).book → All (CanStep c.deal c.conforming c.seeds) events
    → ((run_on_disks c (events ++ finish_steps c (run c events))).state ≡ finish c (run c events))
    × IsRunOnDisks c (events ++ finish_steps c (run c events))

-- what the parties of a job sign, with their seeds, has the sizes of its type
abbrev pub SeedsSignWhole : Type 0
SeedsSignWhole = (seed : Option (List ℕ)) (v : ℕ) (d : Deal) → SignsWhole (signing_wallet seed v d)
