-- The four disk calls by which a journal records a hashkey, and what a crash leaves at each point
-- among them.
use Rattle.std.specs.Prelude.{◌≡◌, ℕ, zero, suc, ◌<◌, ◌≤◌, true, false, List, [], ◌∷◌, ◌++◌, length, replicate, None, if◌then◌else◌}
use Rattle.std.specs.List.{AllByRecursion}
use Rattle.swap_digraph.specs.declared.deal.Deal.{Deal}
use Rattle.hashkey_path.specs.declared.hashkey.Hashkey.{Hashkey}
use Rattle.wallet_journal.specs.Device.{Write}
use Rattle.wallet_journal.specs.Layout.{is_made, is_gate_open, recorded, HasWholeParts}
use Rattle.wallet_journal.specs.Journal.{IsNewJournal}
use Rattle.wallet_journal.specs.Held.{Held, synced_bytes, visible_bytes, Leaves, IsOnDisk}
use Rattle.wallet_journal.specs.Memory.{with_write, all_synced, crashed}
use Rattle.wallet_journal.specs.Recording.{body_write, gate_write, IsWritten, IsStoppedRecording}
use Rattle.wallet_journal.specs.Stopped.{is_kept_after_crash}

-- one write more, which isn't synced
abbrev pub with_loose : Held → Write → Held
with_loose h w = with_write h w.at w.bytes h.spare

-- what disk call n of four, counted from 0, makes of what is held: the write of the hashkey's body,
-- a sync, the write that opens its gate, a sync
abbrev pub after_disk_call : ℕ → Hashkey → Held → Held
after_disk_call zero key h = with_loose h (body_write key)
after_disk_call (suc zero) key h = all_synced h
after_disk_call (suc (suc zero)) key h = with_loose h (gate_write key)
after_disk_call (suc (suc (suc n))) key h = all_synced h

-- what is held behind the first n of them
abbrev pub after_disk_calls : ℕ → Hashkey → Held → Held
after_disk_calls zero key h = h
after_disk_calls (suc n) key h = after_disk_call n key (after_disk_calls n key h)

-- how many of the four have done something where the disk stops within call k: a write that fails
-- has begun, and a sync that fails has synced nothing
abbrev pub begun_calls : ℕ → ℕ
begun_calls zero = 1
begun_calls (suc zero) = 1
begun_calls (suc (suc k)) = 3

-- what is held where the disk stops within call k
abbrev pub held_within : ℕ → Hashkey → Held → Held
held_within k key h = after_disk_calls (begun_calls k) key h

-- What a new journal holds: the deal's id, the party and eight closed gates, then the byte that
-- says that it is made, each synced.
abbrev pub new_disk : Deal → ℕ → Held
new_disk d v = record {
  synced = record { at = 1; bytes = d.id ++ v ∷ replicate 8 0 } ∷ record { at = 0; bytes = 1 ∷ [] } ∷ [];
  loose = [];
  spare = 0;
}

-- A journal is made on the disk, and every write is synced.
pub record IsMadeDisk (h : Held) : Type 0 where
  pub on : AllByRecursion IsOnDisk h.synced
  pub settled : h.loose ≡ []
  pub made : is_made (synced_bytes h) ≡ true

-- The disk has recorded nothing for the hashkey's lock, and the hashkey has its sizes: up to 32
-- vertices, a signature for each, and parts that its body tells.
pub record CanRecord (h : Held) (key : Hashkey) : Type 0 where
  pub lock : key.lock < 8
  pub none : recorded (synced_bytes h) key.lock ≡ None
  pub few : length key.path ≤ 32
  pub paired : length key.sigs ≡ length key.path
  pub told : HasWholeParts key

-- the same is recorded for each lock
abbrev pub ReadsAs : List ℕ → List ℕ → Type 0
ReadsAs c bytes = (i : ℕ) → i < 8 → recorded c i ≡ recorded bytes i

-- the bytes before the four calls, and behind them
abbrev pub bytes_before : Held → List ℕ
bytes_before h = synced_bytes h

abbrev pub bytes_after : Hashkey → Held → List ℕ
bytes_after key h = synced_bytes (after_disk_calls 4 key h)

-- What is read of any bytes that a crash leaves behind the first n of the four calls.
pub record IsReadBehind (h : Held) (key : Hashkey) (n : ℕ) (c : List ℕ) : Type 0 where
  pub sized : length c ≡ 549426
  pub made : is_made c ≡ true
  -- before the gate is written all is as it was
  pub early : n ≤ 2 → ReadsAs c (bytes_before h)
  -- from then on to its sync the byte of the gate decides
  pub opened : n ≡ 3 → is_gate_open c key.lock ≡ true → ReadsAs c (bytes_after key h)
  pub shut : n ≡ 3 → is_gate_open c key.lock ≡ false → ReadsAs c (bytes_before h)
  -- and then the hashkey is recorded
  pub late : n ≡ 4 → ReadsAs c (bytes_after key h)

-- The laws.

-- the four calls leave the writes that the journal's contract states, whether they come to their
-- end or stop within one of them
abbrev pub CallsAreTheJournals : Type 0
CallsAreTheJournals =
    (h : Held) (key : Hashkey) → h.loose ≡ [] → IsWritten key h.synced (after_disk_calls 4 key h).synced (after_disk_calls 4 key h).loose
    × ((k : ℕ) → k < 4 → IsStoppedRecording k key h.synced (held_within k key h).synced (held_within k key h).loose)

-- whatever a crash leaves at each of the five points is read as it was before or as it is behind
-- the four calls
abbrev pub PointsAreRead : Type 0
PointsAreRead =
    (h : Held) (key : Hashkey) (n : ℕ) (c : List ℕ) → IsMadeDisk h → CanRecord h key → n ≤ 4 → Leaves (after_disk_calls n key h) c → IsReadBehind h key n c

-- within call k, what a crash with an image leaves is read as it was before, unless the gate was
-- written and the image is 1
abbrev pub ImagesAreRead : Type 0
ImagesAreRead =
    (h : Held) (key : Hashkey) (k image : ℕ) → IsMadeDisk h → CanRecord h key → k < 4
    → ReadsAs (visible_bytes (crashed image (held_within k key h))) (if is_kept_after_crash k image then bytes_after key h else bytes_before h)

-- a new journal is made, with nothing recorded
abbrev pub NewDisksAreMade : Type 0
NewDisksAreMade = (d : Deal) (v : ℕ) → length d.id ≡ 32 → IsMadeDisk (new_disk d v) × IsNewJournal d.id v (synced_bytes (new_disk d v))
