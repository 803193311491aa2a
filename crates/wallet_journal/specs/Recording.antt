-- Why a hashkey isn't recorded.
use Rattle.std.specs.Prelude.{◌≡◌, ℕ, zero, suc, List, [], ◌∷◌, ◌++◌, Option, Bool, true, Result, Ok, Err}
use Rattle.hashkey_path.specs.declared.hashkey.Hashkey.{Hashkey}
use Rattle.swap_io.specs.Causes.{Rose}
use Rattle.wallet_journal.specs.Device.{Write, IsStill}
use Rattle.wallet_journal.specs.Layout.{body_position, gate_position, encoded_body}
use Rattle.wallet_journal.specs.declared.fault.RecordFault.{RecordFault}
use Rattle.wallet_journal.specs.declared.fault.RecordFault.TheVariants.{DiskFault, NoMemory}

-- the disk has failed since, or memory ran out and the disk reads as before, and is still
abbrev pub IsRecordFault : ℕ → ℕ → List ℕ → List ℕ → (List ℕ → Type 0) → List Write → RecordFault → Type 0
IsRecordFault before now old new may_leave loose DiskFault = Rose before now
IsRecordFault before now old new may_leave loose NoMemory = IsStill new may_leave loose × (new ≡ old)

-- a record that wasn't made, as callers see it: after want of memory the journal is as it was and
-- sound
abbrev pub IsRefusedRecord : ℕ → ℕ → RecordFault → List (Option Hashkey) → List (Option Hashkey) → Bool → Type 0
IsRefusedRecord before now DiskFault old new sound = Rose before now
IsRefusedRecord before now NoMemory old new sound = (sound ≡ true) × (new ≡ old)

-- the write of a hashkey's body
abbrev pub body_write : Hashkey → Write
body_write k = record { at = body_position k.lock; bytes = encoded_body k }

-- the write that opens its gate
abbrev pub gate_write : Hashkey → Write
gate_write k = record { at = gate_position k.lock; bytes = 1 ∷ [] }

-- a record's writes came to their end, and are synced
abbrev pub IsWritten : Hashkey → List Write → List Write → List Write → Type 0
IsWritten k synced synced' loose' = (synced' ≡ synced ++ body_write k ∷ gate_write k ∷ []) × (loose' ≡ [])

-- the synced writes and the others of a record that stops within call n, counted from 0, of its
-- four calls
abbrev pub IsStoppedRecording : ℕ → Hashkey → List Write → List Write → List Write → Type 0
IsStoppedRecording zero k synced synced' loose' = (synced' ≡ synced) × (loose' ≡ body_write k ∷ [])
IsStoppedRecording (suc zero) k synced synced' loose' = (synced' ≡ synced) × (loose' ≡ body_write k ∷ [])
IsStoppedRecording (suc (suc n)) k synced synced' loose' = (synced' ≡ synced ++ body_write k ∷ []) × (loose' ≡ gate_write k ∷ [])

-- the writes of a record that stops, by what it answers: it doesn't reach its end, and wants memory
-- only before it has written
abbrev pub IsStoppedRecord : ℕ → Hashkey → List Write → List Write → List Write → Result (Unit {0}) RecordFault → Type 0
IsStoppedRecord n k synced synced' loose' (Ok x) = ⊥
IsStoppedRecord n k synced synced' loose' (Err DiskFault) = IsStoppedRecording n k synced synced' loose'
IsStoppedRecord n k synced synced' loose' (Err NoMemory) = (synced' ≡ synced) × (loose' ≡ [])
