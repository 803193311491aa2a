-- The journals of the conforming parties of a world, on disks in memory.
use Rattle.std.specs.Prelude.{◌≡◌, ◌⊎◌, ◌<◌, ℕ, true, List, [], length, replicate, slice_index_or, Option, Some, None, if◌then◌else◌}
use Rattle.swap_digraph.specs.declared.deal.Deal.{Deal}
use Rattle.hashkey_path.specs.declared.hashkey.Hashkey.{Hashkey}
use Rattle.ledger_core.specs.declared.entry.Entry.{Entry}
use Rattle.ledger_core.specs.Book.{Histories, history}
use Rattle.swap_job.specs.Fitting.{is_near}
use Rattle.ledger_core.specs.declared.entry.Call.TheVariants.{Unlock}
use Rattle.swap_base.specs.Lists.{IsMoment}
use Rattle.swap_rules.specs.Party.{pick_call}
use Rattle.party_wallet.specs.Value.{signed_hashkey}
use Rattle.wallet_journal.specs.Held.{Held, Leaves, visible_bytes}
use Rattle.wallet_journal.specs.Layout.{recorded}
use Rattle.wallet_journal.specs.Journal.{JournalState}
use Rattle.wallet_journal.specs.Memory.{DiskState}
use Rattle.wallet_journal.specs.Stopped.{IsOwnDisk, ShowsAll}
use Rattle.swap_world.specs.Players.{Actor}
use Rattle.swap_world.specs.declared.player.Player.TheVariants.{Conforming}

-- The journal of party v and its deal has just the signed hashkeys, and so has each device that a
-- crash leaves. No call fails on its disk.
pub record IsMachineJournal (d : Deal) (v : ℕ) (signed : List (Option Hashkey)) (j : JournalState DiskState) : Type 0 where
  pub id : j.id ≡ d.id
  pub me : j.me ≡ v
  pub sound : j.sound ≡ true
  pub has : j.signed ≡ signed
  pub own : IsOwnDisk d v j.disk
  -- what a read gives is among what a crash may leave
  pub read : Leaves j.disk.held (visible_bytes j.disk.held)
  pub shows : ShowsAll j.signed j.disk.held

-- the machine of party v has its journal
abbrev pub IsJournaled : Deal → ℕ → Actor → Type 0
IsJournaled d v (Conforming m j) = IsMachineJournal d v m.signed j
IsJournaled d v _ = Unit {0}

-- each machine has its journal
abbrev pub AreJournaled : Deal → List Actor → Type 0
AreJournaled d xs = (v : ℕ) (x : Actor) → v < length xs → x ≡ slice_index_or xs v x → IsJournaled d v x

-- Each device that a crash leaves has for each lock the hashkey that was signed before, or the one
-- signed by the act. What was signed before stays signed.
pub record IsDiskDuringSigning (before after : List (Option Hashkey)) (h : Held) : Type 0 where
  pub places : length after ≡ length before
  pub each : (i : ℕ) → i < length after → (c : List ℕ) → Leaves h c → (recorded c i ≡ signed_hashkey before i) ⊎ (recorded c i ≡ signed_hashkey after i)
  pub stays : (i : ℕ) (key : Hashkey) → signed_hashkey before i ≡ Some key → signed_hashkey after i ≡ Some key

-- Each device that a crash leaves of the disk of party v records only signed hashkeys, and among
-- them the hashkey of each unlock call that the party made.
pub record IsMachineDisk (d : Deal) (v : ℕ) (b : Histories) (signed : List (Option Hashkey)) (h : Held) : Type 0 where
  pub places : length signed ≡ length d.leaders
  pub only : (i : ℕ) (key : Hashkey) → i < length signed → (c : List ℕ) → Leaves h c → recorded c i ≡ Some key → signed_hashkey signed i ≡ Some key
  pub calls : (a : ℕ) (past : List Entry) (e : Entry) (key : Hashkey) → IsMoment (history b a) past e → pick_call v e ≡ Some (Unlock key)
      → (c : List ℕ) → Leaves h c → recorded c key.lock ≡ Some key

-- the machine of party v has its disk
abbrev pub HasMachineDisk : Deal → Histories → ℕ → Actor → Type 0
HasMachineDisk d b v (Conforming m j) = IsMachineDisk d v b m.signed j.disk.held
HasMachineDisk d b v _ = Unit {0}

-- each machine has its disk
abbrev pub HaveDisks : Deal → Histories → List Actor → Type 0
HaveDisks d b xs = (v : ℕ) (x : Actor) → v < length xs → x ≡ slice_index_or xs v x → HasMachineDisk d b v x

-- where it is a machine its journal is one before anything is signed
abbrev pub HasNewJournal : Deal → Actor → Type 0
HasNewJournal d (Conforming m j) = IsMachineJournal d m.me (replicate (length d.leaders) None) j
HasNewJournal d _ = Unit {0}

-- what v knows of arc a that has learnt its ledger, where that touches it
abbrev pub near_known : Deal → ℕ → Histories → ℕ → List Entry
near_known d v b a = if is_near d v a then history b a else []
