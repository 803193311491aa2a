-- What noise doesn't change, and what is told of useless arcs.
use Rattle.std.specs.Prelude.{◌≡◌, ◌≢◌, ◌↔◌, ℕ, ◌+◌, ◌*◌, ◌≤◌, true, false, List, ◌++◌, map, filter, Option, length, count_by}
use Rattle.swap_digraph.specs.declared.deal.Deal.{Deal}
use Rattle.swap_digraph.specs.Deal.{party}
use Rattle.hashkey_path.specs.declared.hashkey.Hashkey.{Hashkey}
use Rattle.ledger_core.specs.declared.entry.Entry.{Entry}
use Rattle.ledger_core.specs.History.{height, settled, balance, is_sender, is_tick, IsLegal}
use Rattle.ledger_core.specs.Book.{Histories, history, IsLegalBook}
use Rattle.swap_rules.specs.declared.finding.Rule.{Rule}
use Rattle.swap_rules.specs.Conduct.{IsConducted}
use Rattle.swap_rules.specs.Late.{reference_height, is_late}
use Rattle.swap_rules.specs.Due.{Wallet, due}
use Rattle.swap_rules.specs.Outcome.{outcome, is_claim, IsEnded}
use Rattle.swap_rules.specs.Rest.{is_ticking, are_ticks, rest_deadline}
use Rattle.swap_rules.specs.Machine.{Begins}
use Rattle.swap_rules.specs.Laws.{IsUnforged}
use Rattle.swap_rules.specs.Walking.{IsWatchful}
use Rattle.swap_rules.specs.Useful.{pressing, useful}
use Rattle.wallet_promise.specs.WithoutNoise.{telling, tellings, is_useless, needed_history, parts, needs, all_needed, merged, SaysTheSame, SayTheSame, SayEnough}
use Rattle.wallet_promise.specs.WithoutNoise.{IsChain, IsChainBook, IsNeededChain, IsNeededBook, MakesNoTransfer}

-- over books that say the same to v, the same is due for it
abbrev pub WhatIsSaidIsDue : Type 0
WhatIsSaidIsDue =
    (d : Deal) (v : ℕ) (w : Wallet) (signed : ℕ → Option Hashkey) (k h : Histories) → SayTheSame v k h → due d v w signed k ≡ due d v w signed h

-- over books that say enough the same is due for v: of contracts with wrong terms, on arcs that
-- enter v, other things may be said, or nothing
abbrev pub EnoughIsDue : Type 0
EnoughIsDue =
    (d : Deal) (v : ℕ) (w : Wallet) (signed : ℕ → Option Hashkey) (k h : Histories) → SayEnough d v k h → due d v w signed k ≡ due d v w signed h

-- over books that say enough the same is useful for v
abbrev pub EnoughIsUseful : Type 0
EnoughIsUseful =
    (d : Deal) (v : ℕ) (at : ℕ → ℕ) (w : Wallet) (signed : ℕ → Option Hashkey) (k h : Histories) → SayEnough d v k h
    → useful d v at w signed k ≡ useful d v at w signed h

-- over books that say enough the same presses for v
abbrev pub EnoughIsPressing : Type 0
EnoughIsPressing =
    (d : Deal) (v : ℕ) (at : ℕ → ℕ) (w : Wallet) (signed : ℕ → Option Hashkey) (k h : Histories) → SayEnough d v k h
    → pressing d v at w signed k ≡ pressing d v at w signed h

-- it rests up to the same height
abbrev pub EnoughRests : Type 0
EnoughRests = (d : Deal) (v : ℕ) (k h : Histories) → SayEnough d v k h → rest_deadline d v k ≡ rest_deadline d v h

-- a book that says enough may have its successive ticks told as one
abbrev pub MergedSaysEnough : Type 0
MergedSaysEnough = (d : Deal) (v : ℕ) (k h : Histories) → SayEnough d v k h → SayEnough d v (map merged k) h

-- over books that say the same it rests up to the same height
abbrev pub WhatIsSaidRests : Type 0
WhatIsSaidRests = (d : Deal) (v : ℕ) (k h : Histories) → SayTheSame v k h → rest_deadline d v k ≡ rest_deadline d v h

-- a history says to v what is told of it
abbrev pub TellingsSayTheSame : Type 0
TellingsSayTheSame = (v : ℕ) (h : List Entry) → SaysTheSame v (telling v h) h

-- successive ticks may be told as one, or as more, to the same height
abbrev pub TicksMayBeMerged : Type 0
TicksMayBeMerged =
    (v : ℕ) (past k h rest : List Entry) → are_ticks k ≡ true → are_ticks h ≡ true → height k ≡ height h
    → SaysTheSame v (past ++ k ++ rest) (past ++ h ++ rest)

-- of a book, and of how it began, what v needs says enough to it
abbrev pub NeededSaysEnough : Type 0
NeededSaysEnough =
    (d : Deal) (v : ℕ) (k b : Histories) → ((a : ℕ) → Begins (history k a) (history b a)) → SayEnough d v (parts (needs d v b) k) k

-- of a useless arc that is the ticks alone
abbrev pub UselessIsTicks : Type 0
UselessIsTicks = (d : Deal) (v a : ℕ) (h : List Entry) → is_useless d v a h ≡ true → needed_history d v a h ≡ filter (λ e. is_ticking e.what) h

-- What v did in book b, and its effect for v, is the same as in book c, which is what is told of b.
pub record HoldsAsTold (d : Deal) (v : ℕ) (c b : Histories) : Type 0 where
  pub conduct : IsConducted d c v ↔ IsConducted d b v
  pub refs : (rule : Rule) (a : ℕ) → reference_height d c v rule a ≡ reference_height d b v rule a
  pub late : (rule : Rule) (a : ℕ) → is_late d c v rule a ≡ is_late d b v rule a
  pub watchful : IsWatchful d c v ↔ IsWatchful d b v
  pub unforged : IsUnforged d c v ↔ IsUnforged d b v
  pub same_outcome : outcome d c v ≡ outcome d b v
  pub ended : IsEnded d c ↔ IsEnded d b

-- a book without noise holds the same for v
abbrev pub AllHoldsAsTold : Type 0
AllHoldsAsTold = (d : Deal) (v : ℕ) (b : Histories) → HoldsAsTold d v (tellings v b) b

-- which keeps the outcomes of all parties
abbrev pub AllOutcomesAreTold : Type 0
AllOutcomesAreTold = (d : Deal) (v u : ℕ) (b : Histories) → outcome d (tellings v b) u ≡ outcome d b u

-- what v needs of a book holds the same for v
abbrev pub NeededHoldsAsTold : Type 0
NeededHoldsAsTold = (d : Deal) (v : ℕ) (b : Histories) → HoldsAsTold d v (all_needed d v b) b

-- a legal history is one of a chain without limits
abbrev pub LegalIsChain : Type 0
LegalIsChain = (d : Deal) (v a : ℕ) (h : List Entry) → IsLegal d a h → IsChain d v a h

-- What v does and the clock keep within the limits of a ledger.
pub record KeepsLedgerLimits (v : ℕ) (h : List Entry) : Type 0 where
  pub calls : count_by (λ e. is_sender v e.sender) h ≤ 32
  pub ticks : count_by (λ e. is_tick e.sender) h ≤ 20000
  pub height : height h ≤ 1000000
  pub transfers : MakesNoTransfer v h

-- what is told of a chain without limits is legal, with the replies as they stood, whatever the
-- noise
abbrev pub TellingIsLegal : Type 0
TellingIsLegal =
    (d : Deal) (v a : ℕ) (h : List Entry) → length d.leaders ≤ 8 → IsChain d v a h → KeepsLedgerLimits v h → IsLegal d a (telling v h)

-- of another it tells few calls
abbrev pub OthersAreFew : Type 0
OthersAreFew =
    (d : Deal) (v a p : ℕ) (h : List Entry) → IsChain d v a h → p ≢ v → count_by (λ e. is_sender p e.sender) (telling v h) ≤ length d.leaders + 2

-- where v is the arc's party, and its contract wasn't claimed, the balances are those that are told
abbrev pub BalancesAreTold : Type 0
BalancesAreTold =
    (d : Deal) (v a : ℕ) (h : List Entry) → IsChain d v a h → MakesNoTransfer v h → v ≡ party d a → is_claim (settled h) ≡ false
    → balance d a (telling v h) v ≡ balance d a h v

-- a legal history is legal with its ticks told as one, and says the same
abbrev pub MergedIsLegal : Type 0
MergedIsLegal = (d : Deal) (v a : ℕ) (h : List Entry) → IsLegal d a h → IsLegal d a (merged h) × SaysTheSame v (merged h) h

-- what is to be told of a ledger is short, however much others do: two entries for each of the
-- contract's accepted calls and v's calls, and one
abbrev pub TellingIsShort : Type 0
TellingIsShort =
    (d : Deal) (v a : ℕ) (h : List Entry) → IsChain d v a h
    → length (merged (telling v h)) ≤ 2 * (count_by (λ e. is_sender v e.sender) h + length d.leaders + 2) + 1

-- each book of a chain without limits can be told: legal, in few entries, and saying the same
abbrev pub BookCanBeTold : Type 0
BookCanBeTold =
    (d : Deal) (v : ℕ) (b : Histories) → length d.leaders ≤ 8 → IsChainBook d v b → ((a : ℕ) → KeepsLedgerLimits v (history b a))
    → IsLegalBook d (map merged (tellings v b)) × SayTheSame v (map merged (tellings v b)) b

-- What v needs of a history.

-- v needs nothing beside the book of a chain without limits
abbrev pub ChainIsNeeded : Type 0
ChainIsNeeded = (d : Deal) (v : ℕ) (b : Histories) → IsChainBook d v b → IsNeededBook d v b

-- what v needs of a chain without limits is legal, with the replies as they stood; a contract that
-- is useless to v may hold anything
abbrev pub NeededIsLegal : Type 0
NeededIsLegal =
    (d : Deal) (v a : ℕ) (h : List Entry) → length d.leaders ≤ 8 → IsNeededChain d v a h → KeepsLedgerLimits v h → IsLegal d a (needed_history d v a h)

-- what v needs of a chain without limits is short
abbrev pub NeededIsShort : Type 0
NeededIsShort =
    (d : Deal) (v a : ℕ) (h : List Entry) → IsNeededChain d v a h
    → length (merged (needed_history d v a h)) ≤ 2 * (count_by (λ e. is_sender v e.sender) h + length d.leaders + 2) + 1

-- each book that v needs of chains without limits can be told: legal, in few entries, and saying
-- enough
abbrev pub NeededCanBeTold : Type 0
NeededCanBeTold =
    (d : Deal) (v : ℕ) (b : Histories) → length d.leaders ≤ 8 → IsNeededBook d v b → ((a : ℕ) → KeepsLedgerLimits v (history b a))
    → IsLegalBook d (map merged (all_needed d v b)) × SayEnough d v (map merged (all_needed d v b)) b
