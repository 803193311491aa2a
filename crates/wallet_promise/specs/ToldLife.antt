-- A wallet's life in a book, where the wallet tells no noise, and of useless arcs only the ticks.
use Rattle.std.specs.Prelude.{◌≡◌, ℕ, ◌<◌, ◌+◌, ◌≤◌, true, false, List, [], map, Option, Some}
use Rattle.swap_base.specs.Lists.{IsElement, IsMoment}
use Rattle.swap_digraph.specs.Graph.{arcs}
use Rattle.swap_digraph.specs.declared.deal.Deal.{Deal}
use Rattle.hashkey_path.specs.declared.hashkey.Hashkey.{Hashkey}
use Rattle.ledger_core.specs.declared.entry.Call.{Call}
use Rattle.ledger_core.specs.declared.entry.Entry.{Entry}
use Rattle.ledger_core.specs.History.{height}
use Rattle.ledger_core.specs.Book.{Histories, history}
use Rattle.swap_rules.specs.declared.finding.Rule.{Rule}
use Rattle.swap_rules.specs.Party.{pick_call}
use Rattle.swap_rules.specs.Conduct.{is_publish}
use Rattle.swap_rules.specs.Late.{reference_height}
use Rattle.swap_rules.specs.Findings.{deal_rules}
use Rattle.swap_rules.specs.Due.{Wallet, has_called, due}
use Rattle.swap_rules.specs.Machine.{Begins}
use Rattle.swap_rules.specs.Rounds.{IsNear}
use Rattle.wallet_promise.specs.WithoutNoise.{tellings, parts, needs, SayEnough}
use Rattle.wallet_promise.specs.Life.{Asking, nothing_kept, MayGo, IsJournal}

-- An asking, with what the ledgers had done behind what is told of them.
pub record Hearing : Type 0 where
  pub asking : Asking
  pub behind : Histories

-- the asking that tells all that the ledgers had done
abbrev pub whole_asking : Hearing → Asking
whole_asking h = record { known = h.behind; kept = h.asking.kept }

-- the asking that tells all of it but noise
abbrev pub without_noise : ℕ → Hearing → Asking
without_noise v h = record { known = tellings v h.behind; kept = h.asking.kept }

-- the asking that tells of it what v needs, in a book that ends like this
abbrev pub as_needed : Deal → ℕ → Histories → Hearing → Asking
as_needed d v b h = record { known = parts (needs d v b) h.behind; kept = h.asking.kept }

-- What is told says enough to v of the beginning of each history in the book. The beginning ends
-- with the last entry that is told of the ledger, and is empty if nothing is told of it.
pub record IsHeard (d : Deal) (v : ℕ) (b : Histories) (h : Hearing) : Type 0 where
  pub says : SayEnough d v h.asking.known h.behind
  pub begins : (a : ℕ) → Begins (history h.behind a) (history b a)

-- A call on arc a after these entries that one of the askings allows. When the call came, the
-- ledger had made every entry behind what the asking was told.
pub record IsToldAnswered (d : Deal) (v : ℕ) (w : Wallet) (hearings : List Hearing) (a : ℕ) (past : List Entry) (c : Call) : Type 0 where
  pub hearing : Hearing
  pub heard : IsElement hearing hearings
  pub may : MayGo d v w hearing.asking (record { arc = a; call = c })
  pub later : Begins (history hearing.behind a) past

-- A wallet's life in a book. What it is told may leave out noise, may tell only the ticks of
-- useless arcs, and may join or split ticks.
pub record IsToldLife (d : Deal) (v : ℕ) (w : Wallet) (b : Histories) (hearings : List Hearing) (kept : ℕ → Option Hashkey) : Type 0 where
  pub journal : IsJournal d v w nothing_kept (map (λ h. h.asking) hearings) kept
  pub told : (h : Hearing) → IsElement h hearings → IsHeard d v b h
  pub calls : (a : ℕ) (past : List Entry) (e : Entry) (c : Call) → IsMoment (history b a) past e → pick_call v e ≡ Some c
      → IsToldAnswered d v w hearings a past c
  pub once : (a : ℕ) (past : List Entry) (e : Entry) → IsMoment (history b a) past e → is_publish (pick_call v e) ≡ true → has_called v is_publish past ≡ false

-- What a wallet does in time. Heights are those of the ledgers behind what is told.

-- The wallet came to rest on time for the height `at`. Nothing was due over what one of its askings
-- was told. Every ledger next to the party was past `at` then, and none was past `by`.
pub record CameToRest (d : Deal) (v : ℕ) (w : Wallet) (hearings : List Hearing) (at by : ℕ) : Type 0 where
  pub hearing : Hearing
  pub heard : IsElement hearing hearings
  pub rests : due d v w hearing.asking.kept hearing.asking.known ≡ []
  pub past : (a : ℕ) → IsNear d v a → at < height (history hearing.behind a)
  pub soon : (a : ℕ) → height (history hearing.behind a) ≤ by

-- the wallet comes to rest within delta of whatever its party has to do
abbrev pub IsToldAttentive : Deal → ℕ → Wallet → Histories → List Hearing → Type 0
IsToldAttentive d v w b hearings =
    (rule : Rule) (a ref : ℕ) → IsElement rule (deal_rules d) → IsElement a (arcs d.graph) → reference_height d b v rule a ≡ Some ref → ref + d.delta < height (history b a)
    → CameToRest d v w hearings ref (ref + d.delta)
