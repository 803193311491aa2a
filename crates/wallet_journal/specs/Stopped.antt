-- A record on a disk in memory that is stopped, and a crash of that disk.
use Rattle.std.specs.Prelude.{◌≡◌, ◌==◌, ◌&&◌, nat_le, ℕ, ◌<◌, Bool, List, [], length, Option, Some, None, if◌then◌else◌}
use Rattle.std.specs.List.{AllByRecursion}
use Rattle.swap_digraph.specs.declared.deal.Deal.{Deal}
use Rattle.hashkey_path.specs.declared.hashkey.Hashkey.{Hashkey}
use Rattle.wallet_journal.specs.Device.{Write}
use Rattle.wallet_journal.specs.Layout.{recorded}
use Rattle.wallet_journal.specs.Journal.{listed_hashkey}
use Rattle.wallet_journal.specs.Held.{Held, no_bytes, after_writes, Leaves, IsOnDisk}
use Rattle.wallet_journal.specs.Memory.{DiskState, crash_writes}
use Rattle.wallet_journal.specs.OwnDisks.{IsOwn}

-- what a crash leaves of these writes, which may not be synced
abbrev pub bytes_left : (image : ℕ) → (synced loose : List Write) → List ℕ
bytes_left image synced loose = after_writes no_bytes (crash_writes image synced loose)

-- A record that is stopped within its call number n, of four, counted from 0, has its hashkey
-- recorded after the crash: its gate was written, and what isn't synced holds its new bytes.
abbrev pub is_kept_after_crash : (n image : ℕ) → Bool
is_kept_after_crash n image = nat_le 2 n && (image == 1)

-- the hashkey that is then recorded, if any
abbrev pub kept_key : Hashkey → (n image : ℕ) → Option Hashkey
kept_key k n image = if is_kept_after_crash n image then Some k else None

-- Each write lies on the disk, and the disk reads as its writes.
pub record IsOfWrites (bytes : List ℕ) (writes : List Write) : Type 0 where
  pub on : AllByRecursion IsOnDisk writes
  pub reads : bytes ≡ after_writes no_bytes writes

-- All writes of a disk are synced, and each device that a crash leaves has just what a journal
-- shows.
pub record IsWrittenUp (d : DiskState) (signed : List (Option Hashkey)) : Type 0 where
  pub on : AllByRecursion IsOnDisk d.held.synced
  pub settled : d.held.loose ≡ []
  pub shown : (i : ℕ) → i < length signed → (c : List ℕ) → Leaves d.held c → recorded c i ≡ listed_hashkey signed i

-- each device that a crash leaves has just these hashkeys recorded
abbrev pub ShowsAll : List (Option Hashkey) → Held → Type 0
ShowsAll signed h = (i : ℕ) → i < length signed → (c : List ℕ) → Leaves h c → recorded c i ≡ listed_hashkey signed i

-- A disk without failing calls. Every crash of it leaves a journal of this deal and party.
pub record IsOwnDisk (d : Deal) (me : ℕ) (s : DiskState) : Type 0 where
  pub never : (s.failing ≡ []) × (s.left ≡ None)
  pub own : (c : List ℕ) → Leaves s.held c → IsOwn d me c
