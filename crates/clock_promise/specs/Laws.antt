-- What is promised to a wallet that is quick enough, whatever anybody else does.
use Rattle.std.specs.Prelude.{◌≡◌, ◌≢◌, ℕ, ◌<◌, false, length, map}
use Rattle.swap_base.specs.Lists.{IsElement}
use Rattle.swap_digraph.specs.Graph.{arcs}
use Rattle.swap_digraph.specs.declared.deal.Deal.{Deal}
use Rattle.ledger_core.specs.Book.{Histories}
use Rattle.swap_rules.specs.declared.finding.Rule.TheVariants.{Unlock as ToUnlock, Claim as ToClaim}
use Rattle.swap_rules.specs.declared.outcome.Outcome.TheVariants.{Underwater}
use Rattle.swap_rules.specs.Late.{is_late}
use Rattle.swap_rules.specs.Due.{Wallet, due}
use Rattle.swap_rules.specs.Outcome.{outcome}
use Rattle.swap_rules.specs.Laws.{IsOnTime, IsUnforged, IsSafe}
use Rattle.swap_rules.specs.Walking.{IsWatchful}
use Rattle.swap_rules.specs.Counted.{all_counted}
use Rattle.swap_rules.specs.Useful.{pressing, useful}
use Rattle.wallet_promise.specs.Life.{HaveNearEnded}
use Rattle.wallet_promise.specs.Mindful.{IsMindful, as_heard}
use Rattle.wallet_promise.specs.Laws.{OfEveryLife}
use Rattle.clock_promise.specs.Polls.{Clocks, IsQuick, Presents, IsPolled, AllHandOver, RunTogether, PublishesBefore}
use Rattle.clock_promise.specs.Mindful.{IsMindfulThere}

-- what presses over what counts of what was told, and what is useful
abbrev pub what_presses : Deal → ℕ → Wallet → Presents
what_presses d v w at kept known = pressing d v at w kept (all_counted v known)

abbrev pub what_is_useful : Deal → ℕ → Wallet → Presents
what_is_useful d v w at kept known = useful d v at w kept (all_counted v known)

-- all that is due over what was told, be it harmful
abbrev pub what_is_due : Deal → ℕ → Wallet → Presents
what_is_due d v w at kept known = due d v w kept known

-- A law of every wallet's life in a legal book of an accepted deal, where the wallet is quick
-- enough, presents at its polls what `presents` says, and hands over its hashkeys.
abbrev pub OfQuickLife : (Deal → ℕ → Wallet → Presents) → (Deal → ℕ → Histories → Type 0) → Type 0
OfQuickLife presents P =
    OfEveryLife (λ d v w b askings kept. (c : Clocks) (polls : ℕ) (at : ℕ → ℕ → ℕ) → IsQuick d c
    → (x : IsPolled d v b askings (presents d v w) c polls at) → AllHandOver d v b askings (presents d v w) c polls at x → P d v b)

-- v is never late with an unlock or a claim
abbrev pub IsPrompt : Deal → ℕ → Histories → Type 0
IsPrompt d v b =
    (a : ℕ) → IsElement a (arcs d.graph) → ((i : ℕ) → i < length d.leaders → is_late d b v (ToUnlock i) a ≡ false) × (is_late d b v ToClaim a ≡ false)

-- What v is promised once the ledgers next to it have ended. It isn't underwater unless it was
-- forged. If its publishes came in time to be asked back it has its refunds, and it is watchful.
pub record IsKept (d : Deal) (v : ℕ) (b : Histories) : Type 0 where
  pub afloat : IsUnforged d b v → outcome d b v ≢ Underwater
  pub safe : PublishesBefore d b v → IsSafe d b v
  pub watchful : PublishesBefore d b v → IsWatchful d b v

-- who presents what presses is never late with an unlock or a claim: it may publish late, or
-- nothing
abbrev pub QuickIsPrompt : Type 0
QuickIsPrompt = OfQuickLife what_presses IsPrompt

-- and it is safe where its ledgers have ended
abbrev pub QuickIsSafe : Type 0
QuickIsSafe = OfQuickLife what_presses (λ d v b. HaveNearEnded d b v → IsKept d v b)

-- the same holds of who presents all that it is answered
abbrev pub ObedientIsPrompt : Type 0
ObedientIsPrompt = OfQuickLife what_is_useful IsPrompt

abbrev pub ObedientIsSafe : Type 0
ObedientIsSafe = OfQuickLife what_is_useful (λ d v b. HaveNearEnded d b v → IsKept d v b)

-- who presents all that is due, be it harmful, is never late at all, where all ledgers next to it
-- keep to the skew
abbrev pub DueIsOnTime : Type 0
DueIsOnTime =
    OfEveryLife (λ d v w b askings kept. (c : Clocks) (polls : ℕ) (at : ℕ → ℕ → ℕ) → IsQuick d c → RunTogether d v c polls at
    → IsPolled d v b askings (what_is_due d v w) c polls at → IsOnTime d b v)

-- Without polls: a mindful wallet, of which only the ledgers are bounded that enter its party.

-- every mindful wallet is one
abbrev pub MindfulIsThere : Type 0
MindfulIsThere = OfEveryLife (λ d v w b askings kept. IsMindful d v w b (map as_heard askings) → IsMindfulThere d v w b askings)

-- it is watchful, and safe, where the ledgers next to its party have ended
abbrev pub MindfulThereIsSafe : Type 0
MindfulThereIsSafe = OfEveryLife (λ d v w b askings kept. IsMindfulThere d v w b askings → HaveNearEnded d b v → IsWatchful d b v × IsSafe d b v)
