-- The books that are audited. Nothing is asked of a reply but that it is one of an entry.
use Rattle.std.specs.Prelude.{◌≡◌, ◌≢◌, ◌≤◌, ◌<◌, ◌+◌, ◌-◌, ◌^◌, ◌==◌, ◌||◌, ℕ, IsTrue, List, length, min}
use Rattle.std.specs.List.{AllByRecursion}
use Rattle.swap_base.specs.Lists.{Moment, moments, moments_after_past}
use Rattle.swap_digraph.specs.declared.deal.Deal.{Deal}
use Rattle.swap_digraph.specs.Deal.{party, counterparty}
use Rattle.escrow_core.specs.declared.reply.Reply.TheVariants.{SenderFull, ClockFull}
use Rattle.ledger_core.specs.declared.entry.Call.{Call}
use Rattle.ledger_core.specs.declared.entry.Sender.{Sender}
use Rattle.ledger_core.specs.declared.entry.Sender.TheVariants.{Party, Clock}
use Rattle.ledger_core.specs.declared.entry.What.{What}
use Rattle.ledger_core.specs.declared.entry.What.TheVariants.{Call as Made, Tick}
use Rattle.ledger_core.specs.declared.entry.Entry.{Entry}
use Rattle.ledger_core.specs.History.{height, fit}
use Rattle.ledger_core.specs.Book.{Histories, history}

-- a height as an entry writes it: held at the greatest number of 32 bits
abbrev pub written_height : ℕ → ℕ
written_height n = min n (2 ^ 32 - 1)

-- a fitting call of one of the arc's two parties, at the height of the entries before it
pub record IsFormedCall (d : Deal) (a : ℕ) (past : List Entry) (p : ℕ) (c : Call) (at : ℕ) : Type 0 where
  pub of_the_two : IsTrue ((p == party d a) || (p == counterparty d a))
  pub fits : IsTrue (fit d a c)
  pub height : at ≡ written_height (height past)

-- a tick by 1 to 1,000,000, with the height after it
pub record IsFormedTick (past : List Entry) (k at : ℕ) : Type 0 where
  pub some : 1 ≤ k
  pub below : k ≤ 1000000
  pub height : at ≡ written_height (height past + k)

-- every tick is the clock's, and every other entry a party's
abbrev pub IsFormedWhat : Deal → ℕ → List Entry → Sender → What → ℕ → Type 0
IsFormedWhat d a past (Party p) (Made c) at = IsFormedCall d a past p c at
IsFormedWhat d a past Clock (Tick k) at = IsFormedTick past k at
IsFormedWhat d a past (Party p) (Tick k) at = ⊥
IsFormedWhat d a past Clock (Made c) at = ⊥

-- An entry of a well-formed history, over the entries before it. What its reply states may be
-- wrong, but isn't a reply that leaves no entry.
pub record IsFormedEntry (d : Deal) (a : ℕ) (past : List Entry) (e : Entry) : Type 0 where
  pub what : IsFormedWhat d a past e.sender e.what e.height
  pub sender_not_full : e.reply ≢ SenderFull
  pub clock_not_full : e.reply ≢ ClockFull

abbrev pub IsFormedMoment : Deal → ℕ → Moment Entry → Type 0
IsFormedMoment d a m = IsFormedEntry d a m.past m.now

-- entries that go on a well-formed history
abbrev pub IsFormedContinuation : Deal → ℕ → List Entry → List Entry → Type 0
IsFormedContinuation d a past h = AllByRecursion (IsFormedMoment d a) (moments_after_past past h)

-- a well-formed history of arc a
abbrev pub IsFormed : Deal → ℕ → List Entry → Type 0
IsFormed d a h = AllByRecursion (IsFormedMoment d a) (moments h)

-- A well-formed book.
pub record IsWellFormed (d : Deal) (b : Histories) : Type 0 where
  pub one_each : length b ≡ length d.graph.arcs
  pub formed : (a : ℕ) → a < length b → IsFormed d a (history b a)
