-- What callers see of a journal, and what its calls keep.
use Rattle.std.specs.Prelude.{◌≡◌, ◌≢◌, ◌⊎◌, ℕ, ◌<◌, ◌≤◌, ◌+◌, Bool, true, List, length, take, get_or, slice_index_or, Option, Some, None}
use Rattle.hashkey_path.specs.declared.hashkey.Hashkey.{Hashkey}
use Rattle.wallet_journal.specs.Device.{Write, IsStill}
use Rattle.wallet_journal.specs.Layout.{is_made, journal_deal_id, journal_party, recorded}

-- What callers see of a journal.
pub record JournalState (D : Type 0) : Type 0 where
  pub disk : D
  -- the id of its deal
  pub id : List ℕ
  pub me : ℕ
  -- for each lock of the deal the hashkey that is recorded, if any
  pub signed : List (Option Hashkey)
  -- no call answered that the disk failed
  pub sound : Bool

-- the hashkey of lock i in a list by locks
abbrev pub listed_hashkey : List (Option Hashkey) → ℕ → Option Hashkey
listed_hashkey signed i = slice_index_or signed i None

-- A hashkey that each of the outcomes has recorded for a lock is recorded there in this one.
abbrev pub KeepsRecorded : (List ℕ → Type 0) → List ℕ → Type 0
KeepsRecorded outcomes c = (i : ℕ) (k : Hashkey) → i < 8 → ((e : List ℕ) → outcomes e → recorded e i ≡ Some k) → recorded c i ≡ Some k

-- each lock's hashkey is as it was, but that the new one may be recorded
abbrev pub MayHaveRecorded : List ℕ → Hashkey → List ℕ → Type 0
MayHaveRecorded old key c = (i : ℕ) → i < 8 → (recorded c i ≡ recorded old i) ⊎ ((i ≡ key.lock) × (recorded c i ≡ Some key))

-- The journal stands on the disk, which is still, and shows what is recorded there.
pub record IsKeptJournal (bytes : List ℕ) (may_leave : List ℕ → Type 0) (loose : List Write) (id : List ℕ) (me : ℕ) (signed : List (Option Hashkey)) : Type 0 where
  pub still : IsStill bytes may_leave loose
  pub made : is_made bytes ≡ true
  pub id_there : journal_deal_id bytes ≡ id
  pub party_there : journal_party bytes ≡ me
  pub shown : (i : ℕ) → i < length signed → listed_hashkey signed i ≡ recorded bytes i
  pub few : length signed ≤ 8

-- The hashkey is recorded, and all else that the journal says is as it was.
pub record Gains (old : List ℕ) (key : Hashkey) (new : List ℕ) : Type 0 where
  pub made : is_made new ≡ is_made old
  pub id : journal_deal_id new ≡ journal_deal_id old
  pub party : journal_party new ≡ journal_party old
  pub here : recorded new key.lock ≡ Some key
  pub others : (i : ℕ) → i < 8 → i ≢ key.lock → recorded new i ≡ recorded old i

-- The journal of this deal and party is made.
pub record IsMadePartyJournal (id : List ℕ) (me : ℕ) (bytes : List ℕ) : Type 0 where
  pub made : is_made bytes ≡ true
  pub id_there : journal_deal_id bytes ≡ id
  pub party_there : journal_party bytes ≡ me

-- Where a journal is made, it is of this deal and party.
abbrev pub IsPartys : List ℕ → ℕ → List ℕ → Type 0
IsPartys id me bytes = is_made bytes ≡ true → (journal_deal_id bytes ≡ id) × (journal_party bytes ≡ me)

-- Nothing is recorded, and a journal that is made is of this deal and party.
pub record IsUnused (id : List ℕ) (me : ℕ) (bytes : List ℕ) : Type 0 where
  pub none : (i : ℕ) → i < 8 → recorded bytes i ≡ None
  pub partys : IsPartys id me bytes

-- A new journal.
pub record IsNewJournal (id : List ℕ) (me : ℕ) (bytes : List ℕ) : Type 0 where
  pub made : is_made bytes ≡ true
  pub id_there : journal_deal_id bytes ≡ id
  pub party_there : journal_party bytes ≡ me
  pub none : (i : ℕ) → i < 8 → recorded bytes i ≡ None

-- The bytes of a head, behind byte 0: the id, the party, and eight closed gates.
pub record IsHead (id : List ℕ) (me : ℕ) (head : List ℕ) : Type 0 where
  pub size : length head ≡ 41
  pub id_first : take 32 head ≡ id
  pub then_party : get_or head 32 0 ≡ me
  pub gates : (i : ℕ) → i < 8 → get_or head (33 + i) 0 ≡ 0
