-- What the disks of a run's conforming parties have recorded.
use Rattle.std.specs.Prelude.{◌≡◌, ◌<◌, ℕ, true, List, length, Some}
use Rattle.swap_base.specs.Lists.{IsMoment}
use Rattle.swap_digraph.specs.declared.deal.Deal.{Deal}
use Rattle.hashkey_path.specs.declared.hashkey.Hashkey.{Hashkey}
use Rattle.ledger_core.specs.declared.entry.Call.TheVariants.{Unlock}
use Rattle.ledger_core.specs.declared.entry.Entry.{Entry}
use Rattle.ledger_core.specs.Book.{history}
use Rattle.swap_rules.specs.Party.{pick_call}
use Rattle.party_wallet.specs.Value.{signed_hashkey}
use Rattle.wallet_journal.specs.Held.{Held, Leaves, visible_bytes}
use Rattle.wallet_journal.specs.Layout.{recorded}
use Rattle.swap_run.specs.Run.{Cast, State, conforms, state_notes}

-- The disk of party v in a run. Whatever a crash leaves of it, exactly the hashkeys that v signed
-- are recorded, and among them is the hashkey of each unlock call that v made.
pub record IsPartyDisk (d : Deal) (s : State) (v : ℕ) (h : Held) : Type 0 where
  -- what a read gives is among what a crash may leave
  pub read : Leaves h (visible_bytes h)
  pub calls : (a : ℕ) (past : List Entry) (e : Entry) (key : Hashkey) → IsMoment (history s.book a) past e → pick_call v e ≡ Some (Unlock key)
      → (c : List ℕ) → Leaves h c → recorded c key.lock ≡ Some key
  pub just : (i : ℕ) → i < length d.leaders → (c : List ℕ) → Leaves h c → recorded c i ≡ signed_hashkey (state_notes s v).signed i

-- where party v conforms, it has a disk that has recorded its calls
abbrev pub HasDisk : Cast → State → ℕ → Type 0
HasDisk c s v = conforms c v ≡ true → (h : Held) × IsPartyDisk c.deal s v h

-- each conforming party has a disk that has recorded its calls
abbrev pub AreRecorded : Cast → State → Type 0
AreRecorded c s = (v : ℕ) → v < c.deal.graph.n → HasDisk c s v
