-- A wallet whose refused unlocks, claims and refunds are passed over: they needn't be told, and
-- where they are told they make nothing called, so that the calls are answered again.
use Rattle.std.specs.Prelude.{◌≡◌, ◌⊎◌, ◌≤◌, length, ℕ, true, false, List, [], ◌∷◌, map, Option, Some, None, is_some}
use Rattle.swap_base.specs.Lists.{IsElement, IsMoment}
use Rattle.swap_digraph.specs.declared.deal.Deal.{Deal}
use Rattle.hashkey_path.specs.declared.hashkey.Hashkey.{Hashkey}
use Rattle.ledger_core.specs.declared.entry.Call.{Call}
use Rattle.ledger_core.specs.declared.entry.Call.TheVariants.{Unlock}
use Rattle.ledger_core.specs.declared.entry.Entry.{Entry}
use Rattle.ledger_core.specs.History.{IsLegal}
use Rattle.ledger_core.specs.Book.{Histories, history}
use Rattle.swap_rules.specs.Accepted.{IsAccepted}
use Rattle.swap_rules.specs.Party.{pick_call}
use Rattle.swap_rules.specs.Conduct.{is_publish, IsConducted}
use Rattle.swap_rules.specs.Due.{Wallet, unlocks_lock, has_called}
use Rattle.swap_rules.specs.Machine.{Begins, IsWallet, noted}
use Rattle.swap_rules.specs.Laws.{IsOnTime, IsSafe}
use Rattle.swap_rules.specs.Walking.{IsWatchful}
use Rattle.swap_rules.specs.Counted.{counted, all_counted}
use Rattle.wallet_promise.specs.WithoutNoise.{telling, SaysTheSame, SayEnough, IsChain, IsNeededBook}
use Rattle.wallet_promise.specs.BookLaws.{KeepsLedgerLimits}
use Rattle.wallet_promise.specs.Life.{Asking, nothing_kept, IsPartKept, HaveNearEnded}
use Rattle.wallet_promise.specs.Answers.{MayGo, MayKeep}
use Rattle.wallet_promise.specs.ToldLife.{Hearing, whole_asking, IsToldLife}
use Rattle.wallet_promise.specs.ToldLaws.{IsWithinLimits}

-- what is kept after an asking
abbrev pub IsKeepingStep : Deal → ℕ → Wallet → (ℕ → Option Hashkey) → Asking → (ℕ → Option Hashkey) → Type 0
IsKeepingStep d v w before q next =
    (next ≡ before)
    ⊎ ((key : Hashkey) × MayKeep d v w q key × (before key.lock ≡ None) × (next ≡ noted before (Unlock key)))

-- the askings in the order in which their hashkeys are kept
abbrev pub IsJournal : Deal → ℕ → Wallet → (ℕ → Option Hashkey) → List Asking → (ℕ → Option Hashkey) → Type 0
IsJournal d v w before [] after = after ≡ before
IsJournal d v w before (q ∷ qs) after =
    IsPartKept q.kept before × (next : ℕ → Option Hashkey) × IsKeepingStep d v w before q next × IsJournal d v w next qs after

-- What counts of what is told says enough to v of what counts of the beginning of each history in
-- the book. Where an unlock of v stands there, accepted or refused, the hashkey that was kept for
-- its lock is handed over.
pub record IsHeard (d : Deal) (v : ℕ) (b : Histories) (h : Hearing) : Type 0 where
  pub says : SayEnough d v (all_counted v h.asking.known) (all_counted v h.behind)
  pub begins : (a : ℕ) → Begins (history h.behind a) (history b a)
  pub handed : (a i : ℕ) → has_called v (unlocks_lock i) (history h.behind a) ≡ true → is_some (h.asking.kept i) ≡ true

-- A call on arc a after these entries that one of the askings allows.
pub record IsAnswered (d : Deal) (v : ℕ) (w : Wallet) (hearings : List Hearing) (a : ℕ) (past : List Entry) (c : Call) : Type 0 where
  pub hearing : Hearing
  pub heard : IsElement hearing hearings
  pub may : MayGo d v w hearing.asking (record { arc = a; call = c })
  pub later : Begins (history hearing.behind a) past

-- A wallet's life in a book, in which it presents again what was refused. A publish lands once.
pub record IsRetryingLife (d : Deal) (v : ℕ) (w : Wallet) (b : Histories) (hearings : List Hearing) (kept : ℕ → Option Hashkey) : Type 0 where
  pub journal : IsJournal d v w nothing_kept (map (λ h. h.asking) hearings) kept
  pub told : (h : Hearing) → IsElement h hearings → IsHeard d v b h
  pub calls : (a : ℕ) (past : List Entry) (e : Entry) (c : Call) → IsMoment (history b a) past e → pick_call v e ≡ Some c → IsAnswered d v w hearings a past c
  pub once : (a : ℕ) (past : List Entry) (e : Entry) → IsMoment (history b a) past e → is_publish (pick_call v e) ≡ true → has_called v is_publish past ≡ false

-- the hearing that tells all that the ledgers had done
abbrev pub whole : Hearing → Hearing
whole h = record { asking = whole_asking h; behind = h.behind }

-- A retrying life is a told life, in the same book, in which a call that was answered once is
-- presented more than once: all that holds of every told life holds of it.
abbrev pub RetryingIsTold : Type 0
RetryingIsTold =
    (d : Deal) (v : ℕ) (w : Wallet) (b : Histories) (hearings : List Hearing) (kept : ℕ → Option Hashkey) → IsRetryingLife d v w b hearings kept
    → IsToldLife d v w b (map whole hearings) kept

-- so on a chain without limits, with any noise, its party is conducted, and safe where it was
-- watchful, or on time
pub record IsPromised (d : Deal) (v : ℕ) (b : Histories) : Type 0 where
  pub conducted : IsConducted d b v
  pub watchful : IsWatchful d b v → IsSafe d b v
  pub on_time : HaveNearEnded d b v → IsOnTime d b v → IsSafe d b v

abbrev pub RetryingIsPromised : Type 0
RetryingIsPromised =
    (d : Deal) (v : ℕ) (w : Wallet) (b : Histories) (hearings : List Hearing) (kept : ℕ → Option Hashkey) → IsAccepted d → IsNeededBook d v b
    → IsWithinLimits v b → IsWallet d v w → IsRetryingLife d v w b hearings kept → IsPromised d v b

-- refused calls of v are noise too: what is told without them, and without other noise, says the
-- same of what counts
abbrev pub RefusedIsNoise : Type 0
RefusedIsNoise = (v : ℕ) (h : List Entry) → SaysTheSame v (counted v (counted v (telling v h))) (counted v h)

-- a legal history is legal without them, with the replies as they stood
abbrev pub CountedIsLegal : Type 0
CountedIsLegal = (d : Deal) (v a : ℕ) (h : List Entry) → IsLegal d a h → IsLegal d a (counted v h)

-- and so is what is told, without them, of a chain without limits
abbrev pub CountedToldIsLegal : Type 0
CountedToldIsLegal =
    (d : Deal) (v a : ℕ) (h : List Entry) → length d.leaders ≤ 8 → IsChain d v a h → KeepsLedgerLimits v h → IsLegal d a (counted v (telling v h))
