-- What a disk in memory holds, and what a crash may leave of it.
use Rattle.std.specs.Prelude.{◌≡◌, ◌⊎◌, ℕ, ◌+◌, ◌≤◌, List, [], ◌∷◌, length, replicate, drop}
use mathlib.Core.Logic.{inl, inr}
use Rattle.std.specs.List.{AllByRecursion}
use Rattle.wallet_journal.specs.Device.{Write, written, Torn}

-- the writes that a sync made last and those since, each oldest first, and how many calls have
-- their memory
pub record Held : Type 0 where
  pub synced : List Write
  pub loose : List Write
  pub spare : ℕ

-- the bytes of an unwritten disk; its size stands under a name of its own, since a list of that
-- length takes minutes to compute
unfoldable pub disk_size : ℕ
disk_size = 549426

abbrev pub no_bytes : List ℕ
no_bytes = replicate disk_size 0

-- the bytes after writes
abbrev pub after_writes : List ℕ → List Write → List ℕ
after_writes bytes [] = bytes
after_writes bytes (w ∷ ws) = after_writes (written bytes w.at w.bytes) ws

-- the bytes that a sync made last
abbrev pub synced_bytes : Held → List ℕ
synced_bytes h = after_writes no_bytes h.synced

-- the bytes that a read gives
abbrev pub visible_bytes : Held → List ℕ
visible_bytes h = after_writes (synced_bytes h) h.loose

-- each range that was written may hold any bytes
abbrev pub MayBeLeft : List ℕ → List Write → List ℕ → Type 0
MayBeLeft bytes [] c = c ≡ bytes
MayBeLeft bytes (w ∷ ws) c = (d : List ℕ) × Torn w.at (length w.bytes) bytes d × MayBeLeft d ws c

-- what a crash may leave
abbrev pub Leaves : Held → List ℕ → Type 0
Leaves h c = MayBeLeft (synced_bytes h) h.loose c

-- what a crash might have left at one of these moments
abbrev pub HadLeft : List Held → List ℕ → Type 0
HadLeft [] c = ⊥
HadLeft (h ∷ hs) c = Leaves h c ⊎ HadLeft hs c

-- the range lies on the disk
abbrev pub IsOnDisk : Write → Type 0
IsOnDisk w = w.at + length w.bytes ≤ 549426

-- each write lies on the disk
abbrev pub AreOnDisk : Held → Type 0
AreOnDisk h = AllByRecursion IsOnDisk h.synced × AllByRecursion IsOnDisk h.loose

none_left : (past : List Held) (c : List ℕ) → HadLeft (drop (length past) past) c → ⊥
none_left [] c had = had
none_left (h ∷ past) c had = none_left past c had

-- since the last of them there is what is held now
pub only_held : (past : List Held) (h : Held) (c : List ℕ) → Leaves h c ⊎ HadLeft (drop (length past) past) c → Leaves h c
only_held past h c (inl now) = now
only_held past h c (inr had) = absurd (none_left past c had)
