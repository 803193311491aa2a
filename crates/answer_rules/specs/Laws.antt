-- The laws of what an answer goes by, where calls land at at a on the ledger of arc a. Each is over
-- any legal book: what counts of what a wallet is told is one.
use Rattle.std.specs.Prelude.{◌≡◌, ◌≢◌, ℕ, ◌+◌, ◌<◌, ◌≤◌, Bool, true, false, List, [], ◌++◌, length, set, Option, Some, None}
use Rattle.swap_base.specs.Lists.{IsElement}
use Rattle.swap_digraph.specs.declared.deal.Deal.{Deal}
use Rattle.swap_digraph.specs.Graph.{leaving}
use Rattle.hashkey_path.specs.declared.hashkey.Hashkey.{Hashkey}
use Rattle.escrow_core.specs.declared.reply.Reply.TheVariants.{Accepted}
use Rattle.escrow_core.specs.Terms.{stated_terms}
use Rattle.ledger_core.specs.declared.entry.Call.TheVariants.{Unlock}
use Rattle.ledger_core.specs.declared.entry.Entry.{Entry}
use Rattle.ledger_core.specs.History.{height, published, Publication, settled, is_full, history_reply}
use Rattle.ledger_core.specs.Book.{Histories, history, IsLegalBook}
use Rattle.swap_rules.specs.Accepted.{IsAccepted}
use Rattle.swap_rules.specs.Due.{Wallet, Action}
use Rattle.swap_rules.specs.Machine.{IsWallet, IsGoodKey}
use Rattle.swap_rules.specs.Rest.{are_ticks, StaysLow}
use Rattle.swap_rules.specs.Useful.{useful}
use Rattle.answer_rules.specs.Heights.{HasHeight, last_accepted, last_on_time}
use Rattle.answer_rules.specs.Finished.{are_finished, ContinuesWithoutParty}
use Rattle.answer_rules.specs.Stopped.{unstopped}

-- Every hashkey that was kept opens its lock on each arc that enters v.
abbrev pub AreGoodKeys : Deal → ℕ → (ℕ → Option Hashkey) → Type 0
AreGoodKeys d v kept = (i : ℕ) (key : Hashkey) → kept i ≡ Some key → IsGoodKey d v i key

-- A wallet that signs for the lock that it is asked for, and puts one vertex onto a path.
pub record SignsItsLock (w : Wallet) : Type 0 where
  pub own : (i : ℕ) → (w.first i).lock ≡ i
  pub onto : (inner : Hashkey) → (w.onto inner).lock ≡ inner.lock
  pub longer : (inner : Hashkey) → length (w.onto inner).path ≤ length inner.path + 1

-- every useful call has its height
abbrev pub UsefulHasHeight : Type 0
UsefulHasHeight =
    (d : Deal) (v : ℕ) (at : ℕ → ℕ) (w : Wallet) (kept : ℕ → Option Hashkey) (k : Histories) (x : Action) → IsLegalBook d k → SignsItsLock w
    → AreGoodKeys d v kept → IsElement x (useful d v at w kept k) → HasHeight d k v kept x (last_on_time d k v x.arc x.call)

-- The contract of an arc with this history can still be opened by v: it isn't settled, and v's
-- entries don't fill its ledger; and what v published has the correct terms.
pub record CanBeOpened (d : Deal) (k : Histories) (v : ℕ) (h : List Entry) : Type 0 where
  pub unsettled : settled h ≡ None
  pub room : is_full h v ≡ false
  pub own : (c : ℕ) (p : Publication) → IsElement c (leaving d.graph v) → published (history k c) ≡ Some p → p.terms ≡ stated_terms d c

-- The contract of arc a accepts the hashkey of v up to that height and at no height above it, as
-- its ledger ticks on.
pub record IsLastHeight (d : Deal) (k : Histories) (v a : ℕ) (key : Hashkey) (last : ℕ) : Type 0 where
  pub until : (more : List Entry) → are_ticks more ≡ true → height (history k a ++ more) ≤ last → CanBeOpened d k v (history k a ++ more)
      → history_reply d a (history k a ++ more) v (Unlock key) ≡ Accepted
  pub above : (more : List Entry) → are_ticks more ≡ true → last < height (history k a ++ more)
      → history_reply d a (history k a ++ more) v (Unlock key) ≢ Accepted

-- every useful unlock has its last height
abbrev pub UnlocksHaveLast : Type 0
UnlocksHaveLast =
    (d : Deal) (v : ℕ) (at : ℕ → ℕ) (w : Wallet) (kept : ℕ → Option Hashkey) (k : Histories) (x : Action) (key : Hashkey) → IsLegalBook d k → IsWallet d v w
    → SignsItsLock w → AreGoodKeys d v kept → IsElement x (useful d v at w kept k) → x.call ≡ Unlock key
    → (last : ℕ) × (last_accepted d x.arc x.call ≡ Some last) × IsLastHeight d k v x.arc key last

-- where every arc next to v is finished, nothing that lands later, without calls of v, makes
-- anything useful that wasn't, though calls land higher then
abbrev pub FinishedStays : Type 0
FinishedStays =
    (d : Deal) (v : ℕ) (at later : ℕ → ℕ) (w : Wallet) (kept : ℕ → Option Hashkey) (k h : Histories) (x : Action) → IsAccepted d → IsLegalBook d k
    → IsLegalBook d h → are_finished d k v ≡ true → ContinuesWithoutParty v k h → ((c : ℕ) → at c ≤ later c)
    → IsElement x (useful d v later w kept h) → IsElement x (useful d v at w kept k)

-- where nothing useful is left, ticks of a ledger leave nothing as long as they don't pass an
-- expiry for which v waits, though calls land higher then
abbrev pub TicksLeaveNothing : Type 0
TicksLeaveNothing =
    (d : Deal) (v : ℕ) (at later : ℕ → ℕ) (w : Wallet) (kept : ℕ → Option Hashkey) (stops : ℕ → Bool) (k : Histories) (a : ℕ) (more : List Entry)
    → are_ticks more ≡ true → ((c : ℕ) → at c ≤ later c) → unstopped stops (useful d v at w kept k) ≡ [] → StaysLow d v k a more
    → unstopped stops (useful d v later w kept (set k a (history k a ++ more))) ≡ []
