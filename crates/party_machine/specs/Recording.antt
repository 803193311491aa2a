-- What a machine has recorded before it answers a call.
use Rattle.std.specs.Prelude.{◌≡◌, ℕ, ◌<◌, List, length, Option, Some, None, is_some, Result, Ok, Err, if◌then◌else◌}
use Rattle.swap_digraph.specs.declared.deal.Deal.{Deal}
use Rattle.hashkey_path.specs.declared.hashkey.Hashkey.{Hashkey}
use Rattle.ledger_core.specs.declared.entry.Call.{Call}
use Rattle.ledger_core.specs.declared.entry.Call.TheVariants.{Unlock}
use Rattle.swap_rules.specs.Due.{Action}
use Rattle.party_wallet.specs.Value.{signed_hashkey}
use Rattle.wallet_journal.specs.Device.{Write}
use Rattle.wallet_journal.specs.Layout.{recorded}
use Rattle.wallet_journal.specs.Journal.{MayHaveRecorded}
use Rattle.wallet_journal.specs.OwnDisks.{FitsDeal}
use Rattle.wallet_journal.specs.Recording.{IsStoppedRecording}
use Rattle.wallet_journal.specs.declared.fault.RecordFault.{RecordFault}
use Rattle.wallet_journal.specs.declared.fault.RecordFault.TheVariants.{DiskFault, NoMemory}
use Rattle.party_machine.specs.Machine.{MachineState, next_due}

-- the hashkey of an unlock for whose lock none was signed
abbrev pub unsigned_key : List (Option Hashkey) → Call → Option Hashkey
unsigned_key signed (Unlock key) = if is_some (signed_hashkey signed key.lock) then None else Some key
unsigned_key signed _ = None

-- the hashkey that is signed for a call, if one is
abbrev pub new_key : List (Option Hashkey) → Option Action → Option Hashkey
new_key signed None = None
new_key signed (Some x) = unsigned_key signed x.call

-- the hashkey that a machine signs for the call that is due first, if it signs one
abbrev pub signs_next : MachineState → Option Hashkey
signs_next m = new_key m.signed (next_due m)

-- A hashkey of a deal, with a signature for each vertex.
pub record IsWholeKey (d : Deal) (key : Hashkey) : Type 0 where
  pub fits : FitsDeal d key
  pub paired : length key.sigs ≡ length key.path

-- each of these outcomes has recorded the hashkey of an unlock
abbrev pub IsCallRecorded : (List ℕ → Type 0) → Call → Type 0
IsCallRecorded outcomes (Unlock key) = (c : List ℕ) → outcomes c → recorded c key.lock ≡ Some key
IsCallRecorded outcomes _ = Unit {0}

-- each of these outcomes has recorded the hashkey of the unlock that a machine answers, if it
-- answers one
abbrev pub IsRecorded : (List ℕ → Type 0) → Option (ℕ × Call) → Type 0
IsRecorded outcomes None = Unit {0}
IsRecorded outcomes (Some x) = IsCallRecorded outcomes x.1

-- a disk that reads as old has recorded all as it was, and the new hashkey, if there is one, may be
-- recorded too
abbrev pub MayHave : List ℕ → Option Hashkey → List ℕ → Type 0
MayHave old None c = ⊥
MayHave old (Some key) c = MayHaveRecorded old key c

-- the synced writes and the others, where a disk stopped after n calls before an answer, which is
-- then not given
abbrev pub IsStoppedNext : {T : Type 0} → ℕ → Hashkey → List Write → List Write → List Write → Result T RecordFault → Type 0
IsStoppedNext n k synced synced' loose' (Ok x) = ⊥
IsStoppedNext n k synced synced' loose' (Err DiskFault) = IsStoppedRecording n k synced synced' loose'
IsStoppedNext n k synced synced' loose' (Err NoMemory) = Unit {0}

-- the hashkey of an unlock is for one of the locks, and it is the one that was signed for its lock,
-- if one was
abbrev pub IsCallPlaced : List (Option Hashkey) → Call → Type 0
IsCallPlaced signed (Unlock key) = (key.lock < length signed) × ((k : Hashkey) → signed_hashkey signed key.lock ≡ Some k → k ≡ key)
IsCallPlaced signed _ = Unit {0}

abbrev pub IsPlaced : List (Option Hashkey) → Option (ℕ × Call) → Type 0
IsPlaced signed None = Unit {0}
IsPlaced signed (Some x) = IsCallPlaced signed x.1
