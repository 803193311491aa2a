-- A mindful wallet, whose calls land some heights above what it was told, and whose refused calls
-- are passed over.
use Rattle.std.specs.Prelude.{◌≡◌, ℕ, ◌+◌, ◌<◌, ◌≤◌, List, [], length, map, Option, Some}
use Rattle.swap_base.specs.Lists.{IsElement}
use Rattle.swap_digraph.specs.Graph.{arcs}
use Rattle.swap_digraph.specs.declared.deal.Deal.{Deal}
use Rattle.hashkey_path.specs.declared.hashkey.Hashkey.{Hashkey}
use Rattle.ledger_core.specs.History.{height}
use Rattle.ledger_core.specs.Book.{Histories, history, IsLegalBook}
use Rattle.swap_rules.specs.declared.finding.Rule.TheVariants.{Unlock as ToUnlock}
use Rattle.swap_rules.specs.Accepted.{IsAccepted}
use Rattle.swap_rules.specs.Party.{first_key}
use Rattle.swap_rules.specs.Late.{reference_height}
use Rattle.swap_rules.specs.Due.{Wallet}
use Rattle.swap_rules.specs.Machine.{Knows, IsWallet}
use Rattle.swap_rules.specs.Rounds.{IsNear}
use Rattle.swap_rules.specs.Laws.{IsSafe}
use Rattle.swap_rules.specs.Walking.{HasLost, IsWatchful}
use Rattle.wallet_promise.specs.Timely.{IsPastExpiries}
use Rattle.swap_rules.specs.Counted.{all_counted}
use Rattle.swap_rules.specs.Useful.{pressing}
use Rattle.wallet_promise.specs.WithoutNoise.{IsNeededBook}
use Rattle.wallet_promise.specs.Life.{Asking, HaveNearEnded}
use Rattle.wallet_promise.specs.Laws.{OfEveryLife}
use Rattle.wallet_promise.specs.ToldLife.{Hearing}
use Rattle.wallet_promise.specs.ToldLaws.{IsWithinLimits}
use Rattle.wallet_promise.specs.Retrying.{IsRetryingLife}

-- The wallet saw on time to the party's unlocks for lock i, which were to be done from the height
-- ref on. Nothing pressed over what one of its askings was told. Every ledger next to the party was
-- past ref then, and nothing that it might have presented would have landed more than delta above
-- ref. The hashkey that it handed over for the lock is the one that the party presents, if any;
-- and each other one that it handed over the party presents too.
pub record ActedOnTime (d : Deal) (v : ℕ) (w : Wallet) (b : Histories) (hearings : List Hearing) (i ref : ℕ) : Type 0 where
  pub hearing : Hearing
  pub heard : IsElement hearing hearings
  pub at : ℕ → ℕ
  pub done : pressing d v at w hearing.asking.kept (all_counted v hearing.asking.known) ≡ []
  pub past : (c : ℕ) → IsNear d v c → ref < height (history hearing.behind c)
  pub ahead : (c : ℕ) → height (history hearing.behind c) ≤ at c
  pub soon : (c : ℕ) → at c ≤ ref + d.delta
  pub handed : hearing.asking.kept i ≡ first_key b v i
  pub shown : (j : ℕ) (key : Hashkey) → hearing.asking.kept j ≡ Some key → first_key b v j ≡ Some key

-- The wallet did what presses by the end.
pub record Finished (d : Deal) (v : ℕ) (w : Wallet) (b : Histories) (hearings : List Hearing) : Type 0 where
  pub hearing : Hearing
  pub heard : IsElement hearing hearings
  pub at : ℕ → ℕ
  pub done : pressing d v at w hearing.asking.kept (all_counted v hearing.asking.known) ≡ []
  pub past : IsPastExpiries d v hearing.behind
  pub all : (a : ℕ) → Knows v (history hearing.behind a) (history b a)

-- A mindful wallet: where an arc that leaves the party is triggered, it saw on time to each unlock
-- that was enabled; and it saw to what presses at the end.
pub record IsMindful (d : Deal) (v : ℕ) (w : Wallet) (b : Histories) (hearings : List Hearing) : Type 0 where
  pub unlocks : HasLost d b v → (i a ref : ℕ) → i < length d.leaders → IsElement a (arcs d.graph) → reference_height d b v (ToUnlock i) a ≡ Some ref
      → ref + d.delta < height (history b a) → ActedOnTime d v w b hearings i ref
  pub finished : Finished d v w b hearings

-- what a wallet hears that is told all
abbrev pub as_heard : Asking → Hearing
as_heard q = record { asking = q; behind = q.known }

-- a mindful wallet is watchful, and safe, where the ledgers next to it have ended: it may publish
-- nothing, and stop at any time
abbrev pub MindfulIsSafe : Type 0
MindfulIsSafe =
    OfEveryLife (λ d v w b askings kept. IsMindful d v w b (map as_heard askings) → HaveNearEnded d b v → IsWatchful d b v × IsSafe d b v)

-- so is a mindful wallet that presents again what was refused
abbrev pub RetryingMindfulIsSafe : Type 0
RetryingMindfulIsSafe =
    (d : Deal) (v : ℕ) (w : Wallet) (b : Histories) (hearings : List Hearing) (kept : ℕ → Option Hashkey) → IsAccepted d → IsLegalBook d b
    → IsWallet d v w → IsRetryingLife d v w b hearings kept → IsMindful d v w b hearings → HaveNearEnded d b v → IsWatchful d b v × IsSafe d b v

-- and any that was watchful is safe
abbrev pub RetryingWatchfulIsSafe : Type 0
RetryingWatchfulIsSafe =
    (d : Deal) (v : ℕ) (w : Wallet) (b : Histories) (hearings : List Hearing) (kept : ℕ → Option Hashkey) → IsAccepted d → IsLegalBook d b
    → IsWallet d v w → IsRetryingLife d v w b hearings kept → IsWatchful d b v → IsSafe d b v

-- The same on a chain without limits, with any noise of others, and with anything in the contracts
-- of useless arcs.
abbrev pub ToldMindfulIsSafe : Type 0
ToldMindfulIsSafe =
    (d : Deal) (v : ℕ) (w : Wallet) (b : Histories) (hearings : List Hearing) (kept : ℕ → Option Hashkey) → IsAccepted d → IsNeededBook d v b
    → IsWithinLimits v b → IsWallet d v w → IsRetryingLife d v w b hearings kept → IsMindful d v w b hearings → HaveNearEnded d b v
    → IsWatchful d b v × IsSafe d b v
