-- What the maker of a wallet can measure, and a wallet that asks at every poll and presents what it
-- is answered. Everything is measured in heights of the ledgers next to the party.
use Rattle.std.specs.Prelude.{Some, ◌≡◌, ◌⊎◌, ℕ, ◌+◌, ◌<◌, ◌≤◌, ◌&&◌, Bool, true, false, nat_le, List, Option}
use Rattle.std.specs.List.{list_any}
use Rattle.swap_base.specs.Lists.{IsElement, IsMoment}
use Rattle.swap_digraph.specs.Graph.{leaving, entering}
use Rattle.swap_digraph.specs.declared.deal.Deal.{Deal}
use Rattle.hashkey_path.specs.declared.hashkey.Hashkey.{Hashkey}
use Rattle.ledger_core.specs.declared.entry.Call.{Call}
use Rattle.ledger_core.specs.declared.entry.Call.TheVariants.{Publish, Unlock, Claim, Refund, Transfer}
use Rattle.ledger_core.specs.declared.entry.Entry.{Entry}
use Rattle.ledger_core.specs.History.{height}
use Rattle.ledger_core.specs.Book.{Histories, history}
use Rattle.swap_rules.specs.declared.finding.Rule.TheVariants.{Unlock as ToUnlock}
use Rattle.swap_rules.specs.Party.{pick_call, first_key}
use Rattle.swap_rules.specs.Late.{reference_height}
use Rattle.swap_rules.specs.Conduct.{is_publish}
use Rattle.swap_rules.specs.Due.{Action, unlocks_lock, is_claiming, is_refunding}
use Rattle.swap_rules.specs.Rounds.{IsNear}
use Rattle.wallet_promise.specs.Life.{Asking}

-- What is measured, each number an upper bound.
pub record Clocks : Type 0 where
  -- skew: at a poll no ledger that pays the party is further above another one next to it
  pub skew : ℕ
  -- finality: what the wallet is told of a ledger at a poll ends at most so far below its height
  pub finality : ℕ
  -- pace: from a poll to the next no ledger next to the party rises further, while the wallet is up
  pub pace : ℕ
  -- down: and no further beyond that while it is down
  pub down : ℕ
  -- landing: a call that was answered at a poll stands before its ledger has risen further from
  -- there. In that time the wallet keeps the hashkey, if it must, and asks again.
  pub landing : ℕ

-- from a poll to the next a ledger rises at most by this
abbrev pub gap : Clocks → ℕ
gap c = c.pace + c.down

-- within this height above the last thing that made a call due, the call stands
abbrev pub reaction : Clocks → ℕ
reaction c = c.skew + c.finality + gap c + c.landing

-- The wallet is quick enough for the deal: delta is time enough for one to change a ledger, and for
-- another to see it and answer (Herlihy 2018, section 2).
abbrev pub IsQuick : Deal → Clocks → Type 0
IsQuick d c = reaction c ≤ d.delta

-- whether a call is of the same kind, for an unlock with a hashkey for the same lock
abbrev pub is_like : Call → Option Call → Bool
is_like (Publish t) o = is_publish o
is_like (Unlock key) o = unlocks_lock key.lock o
is_like Claim o = is_claiming o
is_like Refund o = is_refunding o
is_like (Transfer to units) o = false

-- whether a call of v like this one stands on its ledger at a height of at most `by`, whatever the
-- reply
abbrev pub stands_by : Histories → ℕ → Action → ℕ → Bool
stands_by b v x by = list_any (λ e. is_like x.call (pick_call v e) && nat_le e.height by) (history b x.arc)

-- such a call stands by then, or its ledger hasn't come further
abbrev pub HasLanded : Histories → ℕ → Action → ℕ → Type 0
HasLanded b v x by = (stands_by b v x by ≡ true) ⊎ (height (history b x.arc) ≤ by)

-- What a wallet presents at a poll, by the heights that it counts on its calls to land by, by the
-- hashkeys that it kept and by what it was told.
abbrev pub Presents : Type 0
Presents = (ℕ → ℕ) → (ℕ → Option Hashkey) → Histories → List Action

-- A poll, at which the wallet reads each ledger a next to the party at the height `now a`. What it
-- is told of the ledger ends nowhere above that, and at most `finality` below it. All that it then
-- has to present lands within `landing`, and the wallet counts on its calls to land no later, and
-- above what it is told. Calls that stand already needn't be presented again; those that were refused
-- stand too. Of other ledgers it may be told anything.
pub record IsPoll (d : Deal) (v : ℕ) (b : Histories) (askings : List Asking) (presents : Presents) (c : Clocks) (now : ℕ → ℕ) : Type 0 where
  pub asking : Asking
  pub asked : IsElement asking askings
  pub fresh : (a : ℕ) → IsNear d v a → now a ≤ height (history asking.known a) + c.finality
  pub no_further : (a : ℕ) → IsNear d v a → height (history asking.known a) ≤ now a
  pub by : ℕ → ℕ
  pub ahead : (a : ℕ) → IsNear d v a → height (history asking.known a) ≤ by a
  pub soon : (a : ℕ) → IsNear d v a → by a ≤ now a + c.landing
  pub lands : (x : Action) → IsElement x (presents by asking.kept asking.known) → HasLanded b v x (now x.arc + c.landing)

-- Polls 0, 1, 2 and so on, until the book has come to its end. At poll r the wallet reads ledger a
-- at the height `at r a`. A poll that a crash cuts short isn't one of them: the next one counts.
pub record IsPolled (d : Deal) (v : ℕ) (b : Histories) (askings : List Asking) (presents : Presents) (c : Clocks) (polls : ℕ) (at : ℕ → ℕ → ℕ) : Type 0 where
  -- the first poll comes early
  pub begins : (a : ℕ) → IsNear d v a → at 0 a ≤ c.skew + c.finality + gap c
  pub rises : (r a : ℕ) → r < polls → IsNear d v a → at (r + 1) a ≤ at r a + gap c
  pub together : (r a e : ℕ) → r < polls → IsElement a (entering d.graph v) → IsNear d v e → at r a ≤ at r e + c.skew
  pub poll : (r : ℕ) → r < polls → IsPoll d v b askings presents c (at r)
  pub ends : (a : ℕ) → IsNear d v a → height (history b a) ≤ at polls a

-- What is handed over at a poll: for each lock that is to be unlocked from a height that the poll was
-- told past, the hashkey that the party presents, if it presents any; and each other hashkey that is
-- handed over the party presents too.
pub record HandsOver (d : Deal) (v : ℕ) (b : Histories) (q : Asking) : Type 0 where
  pub handed : (i a ref : ℕ) → reference_height d b v (ToUnlock i) a ≡ Some ref → ((c : ℕ) → IsNear d v c → ref < height (history q.known c))
      → q.kept i ≡ first_key b v i
  pub shown : (j : ℕ) (key : Hashkey) → q.kept j ≡ Some key → first_key b v j ≡ Some key

-- each poll hands over so
abbrev pub AllHandOver : (d : Deal) (v : ℕ) (b : Histories) (askings : List Asking) (presents : Presents) (c : Clocks) (polls : ℕ) (at : ℕ → ℕ → ℕ)
    → IsPolled d v b askings presents c polls at → Type 0
AllHandOver d v b askings presents c polls at x = (r : ℕ) (inside : r < polls) → HandsOver d v b (IsPoll.asking (IsPolled.poll x r inside))

-- the ledgers on which the party pays aren't further above another one than the skew, either
abbrev pub RunTogether : Deal → ℕ → Clocks → ℕ → (ℕ → ℕ → ℕ) → Type 0
RunTogether d v c polls at = (r a e : ℕ) → r < polls → IsNear d v a → IsNear d v e → at r a ≤ at r e + c.skew

-- no publish of v stands within delta of the end of its ledger, so that there is time to ask it
-- back
abbrev pub PublishesBefore : Deal → Histories → ℕ → Type 0
PublishesBefore d b v =
    (a : ℕ) (past : List Entry) (e : Entry) → IsElement a (leaving d.graph v) → IsMoment (history b a) past e → is_publish (pick_call v e) ≡ true
    → e.height + d.delta < height (history b a)
