-- Disks that only the journals of one party of one deal wrote.
use Rattle.std.specs.Prelude.{◌≡◌, ℕ, ◌<◌, ◌≤◌, true, false, List, length}
use Rattle.swap_digraph.specs.declared.deal.Deal.{Deal}
use Rattle.swap_digraph.specs.Deal.{path_limit}
use Rattle.hashkey_path.specs.declared.hashkey.Hashkey.{Hashkey}
use Rattle.wallet_journal.specs.Layout.{are_bounded}
use Rattle.wallet_journal.specs.Journal.{IsPartys, KeepsRecorded, MayHaveRecorded}
use Rattle.wallet_journal.specs.Opening.{is_damaged_contents}
use Rattle.wallet_journal.specs.declared.fault.Unopened.{Unopened}
use Rattle.wallet_journal.specs.declared.fault.Unopened.TheVariants.{DiskFault, Foreign, Damaged, NoMemory}

-- A journal that is made is of this deal and party, and each recorded body can be one of the
-- deal's.
pub record IsOwn (d : Deal) (me : ℕ) (bytes : List ℕ) : Type 0 where
  pub partys : IsPartys d.id me bytes
  pub sound : (i : ℕ) → i < 8 → is_damaged_contents d bytes i ≡ false

-- The vertices of a hashkey are as many as a path of the deal may have, and all of them are
-- parties.
pub record FitsDeal (d : Deal) (key : Hashkey) : Type 0 where
  pub few : length key.path ≤ path_limit d
  pub parties : are_bounded d.graph.n key.path ≡ true

-- What a crash may leave while a journal is opened: what each of the outcomes before has recorded,
-- and where all of these were its own, its own.
pub record IsInOpening (d : Deal) (me : ℕ) (outcomes : List ℕ → Type 0) (c : List ℕ) : Type 0 where
  pub keeps : KeepsRecorded outcomes c
  pub own : ((e : List ℕ) → outcomes e → IsOwn d me e) → IsOwn d me c

-- What a crash may leave while a hashkey is recorded: it whole or not at all, all else as it was,
-- and where the disk was its own, its own.
pub record IsInRecord (old : List ℕ) (key : Hashkey) (c : List ℕ) : Type 0 where
  pub whole : MayHaveRecorded old key c
  pub own : (d : Deal) (me : ℕ) → FitsDeal d key → IsOwn d me old → IsOwn d me c

-- a fault that the party's own disk may give
abbrev pub IsOwnFault : Unopened → Type 0
IsOwnFault Foreign = ⊥
IsOwnFault (Damaged i) = ⊥
IsOwnFault DiskFault = Unit {0}
IsOwnFault NoMemory = Unit {0}
