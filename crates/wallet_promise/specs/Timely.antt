-- What a party has to see to that presents only what is useful: its calls land at a height of at
-- most at a on the ledger of arc a, and its refused ones are passed over.
use Rattle.std.specs.Prelude.{◌≡◌, ℕ, ◌+◌, ◌*◌, ◌<◌, ◌≤◌, [], length, Option, Some}
use Rattle.swap_base.specs.Lists.{IsElement}
use Rattle.time_bounds.specs.Times as times
use Rattle.swap_digraph.specs.Graph.{arcs}
use Rattle.swap_digraph.specs.declared.deal.Deal.{Deal}
use Rattle.hashkey_path.specs.declared.hashkey.Hashkey.{Hashkey}
use Rattle.ledger_core.specs.History.{height}
use Rattle.ledger_core.specs.Book.{Histories, history, IsLegalBook}
use Rattle.swap_rules.specs.declared.finding.Rule.TheVariants.{Unlock as ToUnlock}
use Rattle.swap_rules.specs.Accepted.{IsAccepted}
use Rattle.swap_rules.specs.Party.{first_key}
use Rattle.swap_rules.specs.Conduct.{IsConducted}
use Rattle.swap_rules.specs.Late.{reference_height}
use Rattle.swap_rules.specs.Due.{Wallet}
use Rattle.swap_rules.specs.Outcome.{EnteringHaveEnded}
use Rattle.swap_rules.specs.Machine.{Begins, Knows, IsWallet, KeepsKey}
use Rattle.swap_rules.specs.Rounds.{IsNear}
use Rattle.swap_rules.specs.Laws.{IsSafe}
use Rattle.swap_rules.specs.Walking.{HasLost, IsWatchful, AsksAfterPublish}
use Rattle.swap_rules.specs.Counted.{all_counted}
use Rattle.swap_rules.specs.Useful.{pressing}

-- over this knowledge each ledger next to v is past every expiry
abbrev pub IsPastExpiries : Deal → ℕ → Histories → Type 0
IsPastExpiries d v known = (a : ℕ) → IsNear d v a → times.last_expiry d.start d.delta d.bound < height (history known a)

-- v saw on time to its unlocks for lock i, which were to be done from the height ref on. It knew
-- every ledger next to it past ref, and nothing pressed, though nothing that it might have
-- presented would have landed more than delta above ref. The hashkey that it handed over for the
-- lock is the one that it presents, if it presents any; each other one that it handed over it
-- presents too.
pub record ActedOnTime (d : Deal) (v : ℕ) (w : Wallet) (b : Histories) (i ref : ℕ) : Type 0 where
  pub known : Histories
  pub signed : ℕ → Option Hashkey
  pub at : ℕ → ℕ
  pub grows : (a : ℕ) → Begins (history known a) (history b a)
  pub good : (j : ℕ) (key : Hashkey) → signed j ≡ Some key → KeepsKey d b v j key
  pub done : pressing d v at w signed (all_counted v known) ≡ []
  pub past : (c : ℕ) → IsNear d v c → ref < height (history known c)
  pub ahead : (c : ℕ) → height (history known c) ≤ at c
  pub soon : (c : ℕ) → at c ≤ ref + d.delta
  pub handed : signed i ≡ first_key b v i
  pub shown : (j : ℕ) (key : Hashkey) → signed j ≡ Some key → first_key b v j ≡ Some key

-- v saw to the rest: over knowledge of every ledger next to it past every expiry, and of all its
-- calls, nothing pressed.
pub record Finished (d : Deal) (v : ℕ) (w : Wallet) (b : Histories) : Type 0 where
  pub known : Histories
  pub signed : ℕ → Option Hashkey
  pub at : ℕ → ℕ
  pub done : pressing d v at w signed (all_counted v known) ≡ []
  pub past : IsPastExpiries d v known
  pub all : (a : ℕ) → Knows v (history known a) (history b a)

-- What a timely party keeps: where an arc that leaves it is triggered, it saw on time to each
-- unlock that was enabled; it saw to the rest at the end; and it asks back only what was published.
pub record IsTimely (d : Deal) (v : ℕ) (w : Wallet) (b : Histories) : Type 0 where
  pub unlocks : HasLost d b v → (i a ref : ℕ) → i < length d.leaders → IsElement a (arcs d.graph) → reference_height d b v (ToUnlock i) a ≡ Some ref
      → ref + d.delta < height (history b a) → ActedOnTime d v w b i ref
  pub finished : Finished d v w b
  pub asks : AsksAfterPublish d b v

-- in a legal book of an accepted deal, a conducted party that is timely is watchful and safe where
-- the ledgers that enter it have ended, whatever it publishes or leaves out
abbrev pub TimelyIsSafe : Type 0
TimelyIsSafe =
    (d : Deal) (v : ℕ) (w : Wallet) (b : Histories) → IsAccepted d → IsLegalBook d b → EnteringHaveEnded d b v → IsConducted d b v → IsWallet d v w
    → IsTimely d v w b → IsWatchful d b v × IsSafe d b v

-- A turn of v in a round from the book `old` to the book `new`. At its end v has a knowledge over
-- which nothing presses, though calls that it might have presented would have landed at the height
-- `most` or below.
pub record IsFreeTurn (d : Deal) (v : ℕ) (w : Wallet) (old new : Histories) (most : ℕ) : Type 0 where
  pub known : Histories
  pub signed : ℕ → Option Hashkey
  pub at : ℕ → ℕ
  pub seen : (a : ℕ) → IsNear d v a → Begins (history old a) (history known a)
  pub knows : (a : ℕ) → Knows v (history known a) (history new a)
  pub done : pressing d v at w signed (all_counted v known) ≡ []
  pub ahead : (a : ℕ) → height (history known a) ≤ at a
  pub top : (a : ℕ) → at a ≤ most

-- Rounds of `ticks` ticks each. In each of them v does what presses, where its calls land at most
-- `slack` above the height at which the round began, and publishes as it likes.
pub record AreFreeRounds (d : Deal) (v : ℕ) (w : Wallet) (ticks slack rounds : ℕ) (books : ℕ → Histories) : Type 0 where
  pub legal : (r : ℕ) → r ≤ rounds → IsLegalBook d (books r)
  pub conducted : IsConducted d (books rounds) v
  pub grows : (r a : ℕ) → r < rounds → Begins (history (books r) a) (history (books (r + 1)) a)
  pub at : (r a : ℕ) → r ≤ rounds → IsElement a (arcs d.graph) → height (history (books r) a) ≡ r * ticks
  pub turn : (r : ℕ) → r < rounds → IsFreeTurn d v w (books r) (books (r + 1)) (r * ticks + slack)
  -- what v signed are hashkeys that it may present, and presents
  pub good : (r : ℕ) (l : r < rounds) (j : ℕ) (key : Hashkey) → IsFreeTurn.signed (turn r l) j ≡ Some key → KeepsKey d (books rounds) v j key
  pub shown : (r : ℕ) (l : r < rounds) (j : ℕ) (key : Hashkey) → IsFreeTurn.signed (turn r l) j ≡ Some key → first_key (books rounds) v j ≡ Some key
  -- once an unlock was to be done, v has signed the hashkey that it presents, if it presents any
  pub handed : (r : ℕ) (l : r < rounds) (i a ref : ℕ) → reference_height d (books rounds) v (ToUnlock i) a ≡ Some ref → ref < r * ticks
      → IsFreeTurn.signed (turn r l) i ≡ first_key (books rounds) v i
  -- a refund is asked for only where a publish was accepted, as one that is due
  pub asks : AsksAfterPublish d (books rounds) v

-- A party may stop publishing at any time. If a round's ticks and the slack, margin included, are
-- within delta, it is watchful, and it is safe at the end of rounds that pass the horizon. It
-- presents nothing that its contract may refuse.
abbrev pub MayStopPublishing : Type 0
MayStopPublishing =
    (d : Deal) (v : ℕ) (w : Wallet) (ticks slack rounds : ℕ) (books : ℕ → Histories) → IsAccepted d → IsWallet d v w → 1 ≤ ticks
    → ticks + slack ≤ d.delta → times.horizon d.start d.delta d.bound < rounds * ticks → AreFreeRounds d v w ticks slack rounds books
    → IsWatchful d (books rounds) v × IsSafe d (books rounds) v
